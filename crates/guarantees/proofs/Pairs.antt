-- One key's exchange as both boxes of a run see it: what protocol/specs/Pairing.antt says of the box in question, said of box 1 and box 2.
use Prim.Native.Nat.{ℕ, zero, suc, ◌+◌, ◌<◌}
use mathlib.Core.Path.{◌≡◌, refl, sym, ap, ◌∙◌}
use mathlib.Core.List.{List}
use native.Mathlib.Nat.{le_of_eq}
use lib.ListN.{length-replicate}
use Rattle.lists.proofs.Joined.{chained_same}
use Rattle.shares.specs.Side.{other}
use Rattle.protocol.specs.Work.{work_length}
use Rattle.protocol.specs.Products.{Party}
use Rattle.protocol.specs.Rounds.{earlier_rounds, last_round}
use Rattle.protocol.specs.Exchange.{Both, exchanged, sent_own, sent_others, answer_own, answer_others}
use Rattle.protocol.specs.Pairing.{Roomy, LooksAlike}
use Rattle.rules.specs.Tasks.{count_of, pairs_of}
use Rattle.rules.specs.Batches.{x_in, y_in, answers_given}
use Rattle.rules.proofs.Batches.{each_same}
use Rattle.guarantees.specs.Boxes.{Box, box1, box2, side_of, other_box}
use Rattle.guarantees.specs.Keys.{Key}
use Rattle.guarantees.specs.Run.{Lending}
use Rattle.guarantees.specs.Jobs.{blank, party_at, sent_in, answer_in, sent_by, answers_by}

-- ---- the same exchange with the boxes named the other way round

abbrev swap : Both → Both
swap w = record { own = w.others; others = w.own }

exchanged_swap : (own others : Party) (w : Both) (r : ℕ) → exchanged others own (swap w) r ≡ swap (exchanged own others w r)
unfolding exchanged
exchanged_swap own others w zero = refl
exchanged_swap own others w (suc r) = rw (exchanged_swap own others w r)

own_swap : (own others : Party) (w : Both) (r : ℕ) → sent_own others own (swap w) (suc r) ≡ sent_others own others w (suc r)
unfolding sent_own sent_others
own_swap own others w r = rw (exchanged_swap own others w r)

others_swap : (own others : Party) (w : Both) (r : ℕ) → sent_others others own (swap w) (suc r) ≡ sent_own own others w (suc r)
unfolding sent_own sent_others
others_swap own others w r = rw (exchanged_swap own others w r)

answer_swap : (own others : Party) (w : Both) → answer_others others own (swap w) ≡ answer_own own others w
unfolding answer_own answer_others
answer_swap own others w = rw (exchanged_swap own others w earlier_rounds, own_swap own others w earlier_rounds)

-- ---- alike under two tapes and two lists of shares of box b

-- the shares of x and y of a box's jobs, as its book has them
abbrev pub pairs_in : (Box → Key → Lending) → Box → Key → List ℕ
pairs_in book b key = pairs_of (side_of b) key.task (book b key)

-- job i of a key
abbrev pub JobAlike : Box → (Box → ℕ → ℕ → List ℕ) → (Box → ℕ → ℕ → List ℕ) → (Box → Key → Lending) → (Box → Key → Lending) → Key → ℕ → Type 0
JobAlike b tapes tapes' book book' key i =
    LooksAlike key.width (side_of b) (x_in (pairs_in book b key) i) (y_in (pairs_in book b key) i)
    (x_in (pairs_in book' b key) i) (y_in (pairs_in book' b key) i)
    (x_in (pairs_in book (other_box b) key) i) (y_in (pairs_in book (other_box b) key) i) (tapes (other_box b) (key.first + i) key.width)
    (tapes b (key.first + i) key.width) (tapes' b (key.first + i) key.width)

-- all its jobs
abbrev pub KeyAlike : Box → (Box → ℕ → ℕ → List ℕ) → (Box → ℕ → ℕ → List ℕ) → (Box → Key → Lending) → (Box → Key → Lending) → Key → Type 0
KeyAlike b tapes tapes' book book' key = (i : ℕ) → i < count_of key.task → JobAlike b tapes tapes' book book' key i

roomy : (n : ℕ) → Roomy n (blank n)
roomy n = record { own = le_of_eq (sym (length-replicate (work_length n) 0)); others = le_of_eq (sym (length-replicate (work_length n) 0)) }

module _ (tapes tapes' : Box → ℕ → ℕ → List ℕ) (book book' : Box → Key → Lending) (key : Key) where
  -- a box has the same tapes and shares of the key's jobs under both
  pub record Stays (c : Box) : Type 0 where
    pub tape : (i : ℕ) → tapes c (key.first + i) key.width ≡ tapes' c (key.first + i) key.width
    pub shares : book c key ≡ book' c key

  party_stays : (c : Box) → Stays c → (i : ℕ) → party_at tapes book c key i ≡ party_at tapes' book' c key i
  party_stays c h i = rw (h.tape i, h.shares) refl

  -- what it sends in round 1 is its own tapes' and shares' alone
  first_in : (c : Box) → Stays c → (i : ℕ) → sent_in tapes book c key i 1 ≡ sent_in tapes' book' c key i 1
  unfolding exchanged sent_own sent_others
  first_in box1 h i = rw (party_stays box1 h i) refl
  first_in box2 h i = rw (party_stays box2 h i) refl

  pub first_alike : (c : Box) → Stays c → sent_by tapes book c key 1 ≡ sent_by tapes' book' c key 1
  first_alike c h = chained_same (count_of key.task) _ _ (λ i less. first_in c h i)

  -- the other box has the same under both, and b's jobs look alike
  sent_job : (b : Box) → Stays (other_box b) → (i : ℕ) → JobAlike b tapes tapes' book book' key i
      → (c : Box) (r : ℕ) → r < last_round → sent_in tapes book c key i (suc r) ≡ sent_in tapes' book' c key i (suc r)
  unfolding other
  sent_job box1 h i k box1 r l =
      rw (← h.tape i, ← h.shares) (k.own_same (blank key.width) (blank key.width) (roomy key.width) (roomy key.width) r l)
  sent_job box1 h i k box2 r l =
      rw (← h.tape i, ← h.shares) (k.other_same (blank key.width) (blank key.width) (roomy key.width) (roomy key.width) r l)
  sent_job box2 h i k box1 r l =
      rw (← h.tape i, ← h.shares)
      (sym (others_swap (party_at tapes book box1 key i) (party_at tapes book box2 key i) (blank key.width) r)
      ∙ k.other_same (blank key.width) (blank key.width) (roomy key.width) (roomy key.width) r l
      ∙ others_swap (party_at tapes book box1 key i) (party_at tapes' book' box2 key i) (blank key.width) r)
  sent_job box2 h i k box2 r l =
      rw (← h.tape i, ← h.shares)
      (sym (own_swap (party_at tapes book box1 key i) (party_at tapes book box2 key i) (blank key.width) r)
      ∙ k.own_same (blank key.width) (blank key.width) (roomy key.width) (roomy key.width) r l
      ∙ own_swap (party_at tapes book box1 key i) (party_at tapes' book' box2 key i) (blank key.width) r)

  pub sent_alike : (b : Box) → Stays (other_box b) → KeyAlike b tapes tapes' book book' key
      → (c : Box) (r : ℕ) → r < last_round → sent_by tapes book c key (suc r) ≡ sent_by tapes' book' c key (suc r)
  sent_alike b h k c r l = chained_same (count_of key.task) _ _ (λ i less. sent_job b h i (k i less) c r l)

  answer_job : (b : Box) → Stays (other_box b) → (i : ℕ) → JobAlike b tapes tapes' book book' key i
      → answer_in tapes book (other_box b) key i ≡ answer_in tapes' book' (other_box b) key i
  unfolding other
  answer_job box1 h i k =
      rw (← h.tape i, ← h.shares) (k.answer (blank key.width) (blank key.width) (roomy key.width) (roomy key.width))
  answer_job box2 h i k =
      rw (← h.tape i, ← h.shares)
      (sym (answer_swap (party_at tapes book box1 key i) (party_at tapes book box2 key i) (blank key.width))
      ∙ k.answer (blank key.width) (blank key.width) (roomy key.width) (roomy key.width)
      ∙ answer_swap (party_at tapes book box1 key i) (party_at tapes' book' box2 key i) (blank key.width))

  pub answers_alike : (b : Box) → Stays (other_box b) → KeyAlike b tapes tapes' book book' key
      → answers_by tapes book (other_box b) key ≡ answers_by tapes' book' (other_box b) key
  answers_alike b h k =
      ap (answers_given key.width (side_of (other_box b)) key.task)
      (each_same (count_of key.task) (answer_in tapes book (other_box b) key) (answer_in tapes' book' (other_box b) key)
      (λ i less. answer_job b h i (k i less)))
