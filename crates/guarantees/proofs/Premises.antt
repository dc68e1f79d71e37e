-- A computed test of the premises, for lists in which no entry is to be refused.
use Prim.Native.Nat.{ℕ, suc}
use mathlib.Core.Path.{◌≡◌, refl, ap}
use mathlib.Core.Bool.{Bool, true, false, ◌&&◌, false≢true}
use mathlib.Core.List.{List, [], ◌∷◌}
use mathlib.Core.Logic.{inr}
use borrow.Author.Tests.{ltb-true, eqb-true}
use lib.Dec.{eqb, ltb}
use lib.ListN.{length, get_or}
use Rattle.lists.specs.Every.{every}
use Rattle.lists.proofs.Tests.{and_left, and_right}
use Rattle.lists.proofs.Every.{every_at}
use Rattle.field.specs.Width.{modulus}
use Rattle.rules.specs.Tasks.{count_of}
use Rattle.rules.specs.declared.state.Task.{Task}
use Rattle.rules.specs.declared.state.Task.TheVariants.{Compare, Band}
use Rattle.guarantees.specs.Boxes.{Box, box1, box2, other_box}
use Rattle.guarantees.specs.Keys.{Key, key_at}
use Rattle.guarantees.specs.Outcomes.{kind_of}
use Rattle.guarantees.specs.Entries.{Lent, dealt, loose, Incoming, spoken_at, other, Step, wake, start, speak, hear, drop, cut, cut_start, Entry}
use Rattle.guarantees.specs.Run.{Lending, Setting, Memory, Event, World, memory_of, event_at, stepped}
use Rattle.guarantees.specs.Premises.{TrueMessage, Keeps, Meets, InBoth, SharesInBoth, Compatible, AllCompatible}
use Rattle.guarantees.specs.Maps.{same_box}
use Rattle.guarantees.proofs.Openings.{same_box_lem}
use Rattle.guarantees.proofs.Outcomes.{is_message, message_of_lem}

-- ---- a true message and the box's own tapes

abbrev pub same_task : Task → Task → Bool
same_task (Compare count) (Compare count') = eqb count count'
same_task (Compare count) (Band low high) = false
same_task (Band low high) (Compare count) = false
same_task (Band low high) (Band low' high') = eqb low low' && eqb high high'

same_task_lem : (t t' : Task) → same_task t t' ≡ true → t ≡ t'
same_task_lem (Compare count) (Compare count') e = ap Compare (eqb-true count count' e)
same_task_lem (Compare count) (Band low high) e = absurd (false≢true e)
same_task_lem (Band low high) (Compare count) e = absurd (false≢true e)
same_task_lem (Band low high) (Band low' high') e =
    rw (eqb-true low low' (and_left (eqb low low') (eqb high high') e), eqb-true high high' (and_right (eqb low low') (eqb high high') e)) refl

abbrev same_key : Key → Key → Bool
same_key k k' = eqb k.first k'.first && (same_task k.task k'.task && eqb k.width k'.width)

same_key_lem : (k k' : Key) → same_key k k' ≡ true → k ≡ k'
same_key_lem k k' e =
    let sizes = same_task k.task k'.task && eqb k.width k'.width in
    let rest = and_right (eqb k.first k'.first) sizes e in
    rw (
      eqb-true k.first k'.first (and_left (eqb k.first k'.first) sizes e),
      same_task_lem k.task k'.task (and_left (same_task k.task k'.task) (eqb k.width k'.width) rest),
      eqb-true k.width k'.width (and_right (same_task k.task k'.task) (eqb k.width k'.width) rest),
    )
    refl

-- the box's own dealt tapes of that job
abbrev own_tapes : Box → Key → Lent → Bool
own_tapes b key (dealt c first count n) =
    same_box c b && (eqb first key.first && (eqb count (count_of key.task) && eqb n key.width))
own_tapes b key (loose words) = false

own_tapes_lem : (b : Box) (key : Key) (lent : Lent) → own_tapes b key lent ≡ true → lent ≡ dealt b key.first (count_of key.task) key.width
own_tapes_lem b key (dealt c first count n) e =
    let sizes = eqb count (count_of key.task) && eqb n key.width in
    let named = eqb first key.first && sizes in
    let rest = and_right (same_box c b) named e in
    let last = and_right (eqb first key.first) sizes rest in
    rw (
      same_box_lem c b (and_left (same_box c b) named e),
      eqb-true first key.first (and_left (eqb first key.first) sizes rest),
      eqb-true count (count_of key.task) (and_left (eqb count (count_of key.task)) (eqb n key.width) last),
      eqb-true n key.width (and_right (eqb count (count_of key.task)) (eqb n key.width) last),
    )
    refl
own_tapes_lem b key (loose words) e = absurd (false≢true e)

-- the other box spoke it earlier, under that job and round
abbrev about_test : Box → Key → ℕ → Event → Bool
about_test b key round e =
    same_box e.box (other_box b) && (same_key e.key key && (eqb e.round round && is_message (kind_of e.said)))

abbrev true_test : List Event → Box → Key → ℕ → Incoming → Bool
true_test log b key round (spoken_at place) = ltb place (length log) && about_test b key round (event_at log place)
true_test log b key round (other words) = false

true_message : (log : List Event) (b : Box) (key : Key) (round : ℕ) (incoming : Incoming)
    → true_test log b key round incoming ≡ true → TrueMessage log b key round incoming
true_message log b key round (other words) t = absurd (false≢true t)
true_message log b key round (spoken_at place) t =
    let e = event_at log place in
    let about = and_right (ltb place (length log)) (about_test b key round e) t in
    let t1 = and_right (same_box e.box (other_box b)) _ about in
    let t2 = and_right (same_key e.key key) _ t1 in
    let said = message_of_lem e.said (and_right (eqb e.round round) _ t2) in
    record {
      place = place;
      named = refl;
      earlier = ltb-true place (length log) (and_left (ltb place (length log)) _ t);
      by = same_box_lem e.box (other_box b) (and_left (same_box e.box (other_box b)) _ about);
      under = same_key_lem e.key key (and_left (same_key e.key key) _ t1);
      rounded = eqb-true e.round round (and_left (eqb e.round round) _ t2);
      count = said.count;
      uttered = said.is;
    }

-- ---- the second shares: as many as the first, and all in range

abbrev share_test : Memory → Lending → Lending → ℕ → Bool
share_test m vs vs' i = ltb (get_or vs i 0) (modulus m.state.n) && ltb (get_or vs' i 0) (modulus m.state.n)

abbrev shares_test : Memory → Lending → Lending → Bool
shares_test m vs vs' = eqb (length vs) (length vs') && every (length vs) (share_test m vs vs')

in_both : (m : Memory) (v v' : ℕ) → ltb v (modulus m.state.n) && ltb v' (modulus m.state.n) ≡ true → InBoth m v v'
in_both m v v' t =
    let p = modulus m.state.n in
    inr (inr (ltb-true v p (and_left (ltb v p) (ltb v' p) t), ltb-true v' p (and_right (ltb v p) (ltb v' p) t)))

shares_in_both : (m : Memory) (vs vs' : Lending) → shares_test m vs vs' ≡ true → SharesInBoth m vs vs'
shares_in_both m vs vs' t =
    let long = eqb (length vs) (length vs') in
    let each = every (length vs) (share_test m vs vs') in (
      eqb-true (length vs) (length vs') (and_left long each t),
      λ i below. in_both m (get_or vs i 0) (get_or vs' i 0) (every_at (length vs) (share_test m vs vs') (and_right long each t) i below),
    )

-- ---- the list, with second shares of each box that may be the one to stay hidden

module _ (anew : Box → Box → ℕ → Lending) (g : Setting) where
  abbrev lend_test : ℕ → World → Box → Bool
  lend_test place w b =
      let test : Box → Bool = λ hidden. shares_test (memory_of w b) (g.shares b place) (anew hidden b place) in
      test box1 && test box2

  abbrev entry_test : ℕ → World → Box → Step → Bool
  entry_test place w b (wake n side p) = true
  entry_test place w b (start first task lent) = lend_test place w b
  entry_test place w b (speak first round lent out) = own_tapes b (key_at (memory_of w b).state first) lent
  entry_test place w b (hear first round lent incoming) =
      let key = key_at (memory_of w b).state first in
      own_tapes b key lent && true_test w.log b key round incoming
  entry_test place w b drop = true
  entry_test place w b (cut room) = true
  entry_test place w b (cut_start first task lent at mark room) = lend_test place w b

  lent_in_both : (place : ℕ) (w : World) (b : Box) → lend_test place w b ≡ true
      → (hidden : Box) → SharesInBoth (memory_of w b) (g.shares b place) (anew hidden b place)
  lent_in_both place w b t box1 = shares_in_both (memory_of w b) (g.shares b place) (anew box1 b place) (and_left _ _ t)
  lent_in_both place w b t box2 = shares_in_both (memory_of w b) (g.shares b place) (anew box2 b place) (and_right _ _ t)

  entry_tested : (place : ℕ) (w : World) (b : Box) (s : Step) → entry_test place w b s ≡ true
      → Keeps g place w b s × ((hidden : Box) → Compatible (anew hidden) g place w b s)
  entry_tested place w b (wake n side p) t = (tt, λ hidden. tt)
  entry_tested place w b (start first task lent) t = (tt, lent_in_both place w b t)
  entry_tested place w b (speak first round lent out) t = (λ _. own_tapes_lem b (key_at (memory_of w b).state first) lent t, λ hidden. tt)
  entry_tested place w b (hear first round lent incoming) t =
      let key = key_at (memory_of w b).state first in
      let own = own_tapes b key lent in
      let said = true_test w.log b key round incoming in
      (λ _. (own_tapes_lem b key lent (and_left own said t), true_message w.log b key round incoming (and_right own said t)), λ hidden. tt)
  entry_tested place w b drop t = (tt, λ hidden. tt)
  entry_tested place w b (cut room) t = (tt, λ hidden. tt)
  entry_tested place w b (cut_start first task lent at mark room) t = (tt, lent_in_both place w b t)

  abbrev pub list_test : ℕ → World → List Entry → Bool
  list_test place w [] = true
  list_test place w (e ∷ es) = entry_test place w e.box e.step && list_test (suc place) (stepped g place w e.box e.step) es

  pub list_tested : (place : ℕ) (w : World) (es : List Entry) → list_test place w es ≡ true
      → Meets g place w es × ((hidden : Box) → AllCompatible (anew hidden) g place w es)
  list_tested place w [] t = (tt, λ hidden. tt)
  list_tested place w (e ∷ es) t =
      let w' = stepped g place w e.box e.step in
      let here = entry_test place w e.box e.step in
      let later = list_test (suc place) w' es in
      let first = entry_tested place w e.box e.step (and_left here later t) in
      let rest = list_tested (suc place) w' es (and_right here later t) in
      ((first.0, rest.0), λ hidden. (first.1 hidden, rest.1 hidden))
