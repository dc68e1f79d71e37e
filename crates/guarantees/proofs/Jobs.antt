-- A job's exchanges: what the two boxes hold after each round in each of the jobs that its start took, and the laws that a run goes by.
use Prim.Native.Nat.{ℕ, zero, suc, ◌+◌, ◌<◌, ◌≤◌}
use mathlib.Core.Path.{◌≡◌, refl, sym}
use mathlib.Core.Bool.{true}
use mathlib.Core.List.{List}
use native.Mathlib.Nat.{le_of_eq}
use lib.ListN.{length, length-replicate}
use Rattle.lists.specs.Joined.{chained}
use Rattle.lists.proofs.Joined.{part_chained}
use Rattle.field.specs.Width.{listed}
use Rattle.tape.specs.Layout.{tape_length}
use Rattle.tape.specs.Order.{in_order}
use Rattle.tape.proofs.Orders.{readable}
use Rattle.protocol.specs.Work.{work_length}
use Rattle.protocol.specs.Rounds.{earlier_rounds, last_round, round_words, message, after_hearing, answer_share}
use Rattle.protocol.specs.Exchange.{Both, exchanged, sent_own, sent_others, answer_own, answer_others}
use Rattle.protocol.proofs.Lengths.{message_length, after_length}
use Rattle.rules.specs.Tasks.{count_of, pairs_of}
use Rattle.rules.specs.Batches.{tape_part, words_part}
use Rattle.rules.specs.declared.state.State.{State}
use Rattle.guarantees.specs.Boxes.{Box, box1, box2, side_of, other_box}
use Rattle.guarantees.specs.Keys.{Key, key_at}
use Rattle.guarantees.specs.Run.{Lending, Setting}
use Rattle.guarantees.specs.Jobs.{blank, party_at, sent_in, answer_in, sent_by}

-- the dealt tapes are in order
abbrev pub InOrder : Setting → ℕ → Type 0
InOrder g pair = (c : Box) (number n : ℕ) → listed n ≡ true → in_order n pair (side_of c) number (g.tapes c number n) ≡ true

-- so each is as long as a tape, and each part of several that are lent joined is one of them
module _ (g : Setting) (pair : ℕ) (orders : InOrder g pair) (b : Box) (first n : ℕ) (l : listed n ≡ true) where
  abbrev dealt_tape : ℕ → List ℕ
  dealt_tape i = g.tapes b (first + i) n

  pub dealt_long : (i : ℕ) → length (dealt_tape i) ≡ tape_length n
  dealt_long i = (readable n pair (side_of b) (first + i) (dealt_tape i) (orders b (first + i) n l)).long

  pub dealt_part : (count i : ℕ) → i < count → tape_part n (chained count dealt_tape) i ≡ dealt_tape i
  dealt_part count i less = part_chained count (tape_length n) dealt_tape i less (λ k before. dealt_long k)

-- the job that a state holds
abbrev pub own_key : State → Key
own_key s = key_at s s.batch.first

-- a box's shares of x and y in each of a key's jobs, from the shares that opened each
abbrev pub pairs_at : (Box → Key → Lending) → Box → Key → List ℕ
pairs_at book b key = pairs_of (side_of b) key.task (book b key)

-- tapes by box, number and width, and the shares that opened each job
module _ (tapes : Box → ℕ → ℕ → List ℕ) (book : Box → Key → Lending) where
  abbrev both : Key → ℕ → ℕ → Both
  both key i r = exchanged (party_at tapes book box1 key i) (party_at tapes book box2 key i) (blank key.width) r

  -- what box b holds of job i after r rounds
  abbrev pub holding : Box → Key → ℕ → ℕ → List ℕ
  holding box1 key i r = (both key i r).own
  holding box2 key i r = (both key i r).others

  -- ---- the laws that a run goes by

  pub sent_is : (b : Box) (key : Key) (i r : ℕ)
      → sent_in tapes book b key i (suc r) ≡ message (party_at tapes book b key i) (holding b key i r) (suc r)
  unfolding sent_own sent_others
  sent_is box1 key i r = refl
  sent_is box2 key i r = refl

  pub holding_next : (b : Box) (key : Key) (i r : ℕ)
      → holding b key i (suc r)
      ≡ after_hearing (party_at tapes book b key i) (holding b key i r) (suc r) (sent_in tapes book (other_box b) key i (suc r))
  unfolding exchanged sent_own sent_others
  holding_next box1 key i r = refl
  holding_next box2 key i r = refl

  pub answer_is : (b : Box) (key : Key) (i : ℕ)
      → answer_in tapes book b key i
      ≡ answer_share (party_at tapes book b key i) (holding b key i earlier_rounds) (sent_in tapes book (other_box b) key i last_round)
  unfolding answer_own answer_others sent_own sent_others
  answer_is box1 key i = refl
  answer_is box2 key i = refl

  pub holding_room : (b : Box) (key : Key) (i r : ℕ) → work_length key.width ≤ length (holding b key i r)
  unfolding exchanged
  holding_room box1 key i zero = le_of_eq (sym (length-replicate (work_length key.width) 0))
  holding_room box2 key i zero = le_of_eq (sym (length-replicate (work_length key.width) 0))
  holding_room box1 key i (suc r) =
      let own = party_at tapes book box1 key i in
      let others = party_at tapes book box2 key i in
      rw (after_length own (holding box1 key i r) (message others (holding box2 key i r) (suc r)) (suc r)) (holding_room box1 key i r)
  holding_room box2 key i (suc r) =
      let own = party_at tapes book box2 key i in
      let others = party_at tapes book box1 key i in
      rw (after_length own (holding box2 key i r) (message others (holding box1 key i r) (suc r)) (suc r)) (holding_room box2 key i r)

  -- a job's part of what is sent
  pub sent_part : (b : Box) (key : Key) (i r : ℕ) → i < count_of key.task
      → words_part key.width (suc r) (sent_by tapes book b key (suc r)) i ≡ sent_in tapes book b key i (suc r)
  sent_part b key i r less =
      part_chained (count_of key.task) (round_words key.width (suc r)) (λ k. sent_in tapes book b key k (suc r)) i less
      (λ k l. rw (sent_is b key k r) (message_length (party_at tapes book b key k) (holding b key k r) (suc r)))
