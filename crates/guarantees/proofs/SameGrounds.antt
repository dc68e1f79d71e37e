-- Two runs at one place: what makes their grounds of refusal the same.
use Prim.Native.Nat.{ℕ}
use mathlib.Core.Path.{◌≡◌, refl, sym, ap, ◌∙◌}
use mathlib.Core.Logic.{inl, inr, by_cases}
use native.Mathlib.Decide.{dec_lt}
use native.Mathlib.Omega.{arith}
use borrow.Author.Tests.{lt-ltb}
use lib.ListN.{length, get_or, get_or-eq_default}
use Rattle.rules.specs.Tasks.{count_of}
use Rattle.rules.specs.Grounds.{start_ground}
use Rattle.rules.specs.declared.state.Task.{Task}
use Rattle.guarantees.specs.Boxes.{Box}
use Rattle.guarantees.specs.Keys.{Key, key_at}
use Rattle.guarantees.specs.Entries.{Lent, dealt, Incoming, Step, wake, start, speak, hear, drop, cut, cut_start}
use Rattle.guarantees.specs.Run.{Lending, Setting, Memory, World, memory_of, tape_words}
use Rattle.guarantees.specs.Premises.{TrueMessage, Keeps, InBoth, SharesInBoth, Compatible}
use Rattle.guarantees.specs.View.{covered}
use Rattle.guarantees.proofs.Jobs.{InOrder}
use Rattle.guarantees.proofs.LowEquivalence.{LowMemory, LowEquivalent}
use Rattle.guarantees.proofs.LowModes.{asleep_same}
use Rattle.guarantees.proofs.Refusals.{ShareAlike, SharesAlike, start_same}
use Rattle.guarantees.proofs.StepConsistency.{SameGround, key_low}
use Rattle.guarantees.proofs.Tapes.{tapes_alike}
use Rattle.guarantees.proofs.Outcomes.{uncover_message}

-- ---- shares

-- asleep, or below p alike
share_alike : (m : Memory) (v v' : ℕ) → InBoth m v v' → ShareAlike m.state v v'
share_alike m v v' (inl e) = inr (rw e)
share_alike m v v' (inr (inl asleep)) = inl asleep
share_alike m v v' (inr (inr fits)) = inr (lt-ltb _ _ fits.0 ∙ sym (lt-ltb _ _ fits.1))

shares_alike : (m : Memory) (vs vs' : Lending) → SharesInBoth m vs vs' → SharesAlike m.state vs vs'
shares_alike m vs vs' h = (h.0, each)
  where
    each : (i : ℕ) → ShareAlike m.state (get_or vs i 0) (get_or vs' i 0)
    each i =
        by_cases (dec_lt i (length vs)) (λ less. share_alike m (get_or vs i 0) (get_or vs' i 0) (h.1 i less))
        (λ past. inr (rw (get_or-eq_default vs 0 {n = i} (omega arith), get_or-eq_default vs' 0 {n = i} (omega (arith, h.0))) refl))

-- seen from the second run
in_both_back : {m m' : Memory} (v v' : ℕ) → LowMemory m m' → InBoth m v v' → InBoth m' v' v
in_both_back v v' t (inl e) = inl (sym e)
in_both_back v v' t (inr (inl asleep)) = inr (inl (sym (asleep_same t.state) ∙ asleep))
in_both_back v v' t (inr (inr fits)) = inr (inr (rw (← t.state.n) fits.1, rw (← t.state.n) fits.0))

shares_back : {m m' : Memory} (vs vs' : Lending) → LowMemory m m' → SharesInBoth m vs vs' → SharesInBoth m' vs' vs
shares_back vs vs' t h = (sym h.0, λ i less. in_both_back (get_or vs i 0) (get_or vs' i 0) t (h.1 i (rw h.0 less)))

pub compatible_back : (g g' : Setting) (place : ℕ) (w w' : World) (c : Box) (step : Step) → LowEquivalent w w' → Compatible g'.shares g place w c step
    → Compatible g.shares g' place w' c step
compatible_back g g' place w w' c (wake n side p) k h = tt
compatible_back g g' place w w' c (start first task lent) k h = shares_back (g.shares c place) (g'.shares c place) (k.memories c) h
compatible_back g g' place w w' c (speak first round lent out) k h = tt
compatible_back g g' place w w' c (hear first round lent incoming) k h = tt
compatible_back g g' place w w' c drop k h = tt
compatible_back g g' place w w' c (cut room) k h = tt
compatible_back g g' place w w' c (cut_start first task lent at mark room) k h = shares_back (g.shares c place) (g'.shares c place) (k.memories c) h

-- ---- a start

module _ (g g' : Setting) (pair : ℕ) (orders : InOrder g pair) (orders' : InOrder g' pair) (w w' : World) (k : LowEquivalent w w') where
  pub start_ground_lem : (place : ℕ) (c : Box) (first : ℕ) (task : Task) (lent : Lent) → SharesInBoth (memory_of w c) (g.shares c place) (g'.shares c place)
      → SameGround g g' place w w' c (start first task lent)
  start_ground_lem place c first task lent h =
      let m = memory_of w c in
      let m' = memory_of w' c in
      let t = k.memories c in
      start_same t.state first task (g.shares c place) (g'.shares c place) (tape_words g lent) (tape_words g' lent) m.work m'.work m.tally
      (tapes_alike g g' pair orders orders' m.state first (count_of task) lent) (shares_alike m _ _ h) t.room
      ∙ ap (start_ground m'.state first task (g'.shares c place) (tape_words g' lent) m'.work) t.tally

-- ---- messages

-- a call names the same job in both
pub key_same : {w w' : World} (k : LowEquivalent w w') (c : Box) (first : ℕ) → key_at (memory_of w c).state first ≡ key_at (memory_of w' c).state first
key_same k c first = key_low (k.memories c).state first

module _ (w w' : World) (k : LowEquivalent w w') where
  -- a message true in the first run is true in the second
  pub true_too : (c : Box) (key key' : Key) (round : ℕ) (incoming : Incoming) → key ≡ key' → TrueMessage w.log c key round incoming
      → TrueMessage w'.log c key' round incoming
  true_too c key key' round incoming same_key t =
      let se = k.events t.place in
      record {
        place = t.place;
        named = t.named;
        earlier = rw (← k.places) t.earlier;
        by = sym se.box ∙ t.by;
        under = sym se.key ∙ t.under ∙ same_key;
        rounded = sym se.round ∙ t.rounded;
        count = t.count;
        uttered = uncover_message _ t.count (sym se.said ∙ ap covered t.uttered);
      }

  -- and the other way round
  pub true_back : (c : Box) (key key' : Key) (round : ℕ) (incoming : Incoming) → key ≡ key' → TrueMessage w'.log c key' round incoming
      → TrueMessage w.log c key round incoming
  true_back c key key' round incoming same_key t =
      let se = k.events t.place in
      record {
        place = t.place;
        named = t.named;
        earlier = rw k.places t.earlier;
        by = se.box ∙ t.by;
        under = se.key ∙ t.under ∙ sym same_key;
        rounded = se.round ∙ t.rounded;
        count = t.count;
        uttered = uncover_message _ t.count (se.said ∙ ap covered t.uttered);
      }

-- ---- the premises

-- a call names the same dealt tapes in both
dealt_same : {w w' : World} (k : LowEquivalent w w') (c : Box) (first : ℕ)
    → dealt c first (count_of (memory_of w c).state.batch.task) (memory_of w c).state.n
    ≡ dealt c first (count_of (memory_of w' c).state.batch.task) (memory_of w' c).state.n
dealt_same k c first = ap (λ (key : Key). dealt c key.first (count_of key.task) key.width) (key_same k c first)

-- with the same grounds of refusal the second run keeps to what the first keeps to
pub keeps_too : (g g' : Setting) (place : ℕ) (w w' : World) (k : LowEquivalent w w') (c : Box) (step : Step) → SameGround g g' place w w' c step
    → Keeps g place w c step → Keeps g' place w' c step
keeps_too g g' place w w' k c (wake n side p) f h = tt
keeps_too g g' place w w' k c (start first task lent) f h = tt
keeps_too g g' place w w' k c (speak first round lent out) f h = λ cause. h (f ∙ cause) ∙ dealt_same k c first
keeps_too g g' place w w' k c (hear first round lent incoming) f h =
    λ cause.
    let kept = h (f ∙ cause) in
    (kept.0 ∙ dealt_same k c first, true_too w w' k c _ _ round incoming (key_same k c first) kept.1)
keeps_too g g' place w w' k c drop f h = tt
keeps_too g g' place w w' k c (cut room) f h = tt
keeps_too g g' place w w' k c (cut_start first task lent at mark room) f h = tt
