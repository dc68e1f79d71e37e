-- The shares that opened each job of a run: found by the place of its first number in the log, reduced so that they are in range in any case.
use Prim.Native.Nat.{ℕ, suc, ◌+◌, ◌*◌, ◌/◌, ◌%◌, ◌<◌, ◌≤◌}
use mathlib.Core.Path.{◌≡◌, refl, sym, ap, subst, ◌∙◌}
use mathlib.Core.Bool.{Bool, true, false}
use mathlib.Core.List.{List, [], ◌∷◌}
use native.Mathlib.Nat.{add-zero, mod-lt, mod-eq_of_lt}
use native.Mathlib.Omega.{arith}
use borrow.Author.Tests.{eqb-true, eqb-false}
use lib.Dec.{eqb}
use lib.ListN.{length, length-append, get_or}
use Rattle.lists.proofs.Maps.{get_d_map}
use Rattle.field.specs.Width.{listed, modulus}
use Rattle.field.proofs.Widths.{bounds}
use Rattle.shares.proofs.Sides.{constant_below}
use Rattle.rules.specs.Tasks.{count_of, task_fits, pairs_of}
use Rattle.rules.specs.Grounds.{start_ground}
use Rattle.rules.specs.declared.state.Task.{Task}
use Rattle.rules.specs.declared.state.Task.TheVariants.{Compare, Band}
use Rattle.rules.specs.declared.state.State.{State}
use Rattle.rules.proofs.Tasks.{bounds_in}
use Rattle.rules.proofs.Batches.{count_most}
use Rattle.rules.proofs.Passed.{StartPassed, start_passed}
use Rattle.guarantees.specs.Boxes.{Box}
use Rattle.guarantees.specs.Keys.{Key, job_key}
use Rattle.guarantees.specs.Entries.{Lent, Step, wake, start, speak, hear, drop, cut, cut_start, Entry}
use Rattle.guarantees.specs.Run.{Lending, Setting, Event, World, memory_of, tape_words, event_at, stepped, run}
use Rattle.guarantees.specs.Maps.{taken_at, key_found, clip}
use Rattle.guarantees.proofs.LowEquivalence.{LowEquivalent}
use Rattle.guarantees.proofs.StepConsistency.{SameGround}
use Rattle.guarantees.proofs.Openings.{opening, takes_lem, next_place, run_grows}
use Rattle.guarantees.proofs.Once.{Marked, found, found_key, Once, taken_there}
use Rattle.guarantees.proofs.Invariant.{Booked}

-- ---- shares in range

pub clip_same : (n : ℕ) (vs : Lending) → ((k : ℕ) → k < length vs → get_or vs k 0 < modulus n) → clip n vs ≡ vs
clip_same n [] fits = refl
clip_same n (v ∷ vs) fits = rw (mod-eq_of_lt (fits 0 (omega arith)), clip_same n vs (λ k less. fits (suc k) (omega arith))) refl

-- whatever was lent, each is in range then
pub reduced : (n : ℕ) (vs : Lending) (k : ℕ) → listed n ≡ true → get_or (clip n vs) k 0 < modulus n
reduced n vs k l =
    let positive : 0 < modulus n = omega (arith, bounds l) in
    rw (get_d_map (λ v. v % modulus n) (mod-eq_of_lt positive) vs k) (mod-lt (get_or vs k 0) positive)

-- it is the same whether what was lent is reduced or the shares of x and y that it gives, where a band's bounds are in range
pub clip_pairs : (n side : ℕ) (task : Task) (vs : Lending) → task_fits n task ≡ true → clip n (pairs_of side task vs) ≡ pairs_of side task (clip n vs)
clip_pairs n side (Compare count) vs fits = refl
clip_pairs n side (Band low high) vs fits =
    let b = bounds_in n low high fits in
    let below : low < modulus n = omega (arith, b.0, b.1) in
    rw (
      get_d_map (λ v. v % modulus n) (mod-eq_of_lt (omega (arith, below))) vs 0,
      mod-eq_of_lt (constant_below side below),
      mod-eq_of_lt (constant_below side b.1),
    )
    refl

-- what a start that is not refused was lent is in range before: x and y of each comparison, or a band's a. So it gives the same shares of x and y
passed_same : (s : State) (first : ℕ) (task : Task) (shares tapes work tally : List ℕ) → StartPassed s first task shares tapes work tally
    → (side : ℕ) → pairs_of side task (clip s.n shares) ≡ pairs_of side task shares
passed_same s first (Compare count) shares tapes work tally p side = clip_same s.n shares fits
  where
    fits : (k : ℕ) → k < length shares → get_or shares k 0 < modulus s.n
    fits k less = go (eqb (k % 2) 0) refl
      where
        job : k / 2 < count
        job = omega (arith, less, p.asked)

        go : (t : Bool) → eqb (k % 2) 0 ≡ t → get_or shares k 0 < modulus s.n
        go true even =
            let same : 2 * (k / 2) ≡ k = omega (arith, eqb-true (k % 2) 0 even) in
            subst (λ (i : ℕ). get_or shares i 0 < modulus s.n) same (p.x_fits (k / 2) job)
        go false odd =
            let same : 2 * (k / 2) + 1 ≡ k = omega (arith, eqb-false (k % 2) 0 odd) in
            subst (λ (i : ℕ). get_or shares i 0 < modulus s.n) same (p.y_fits (k / 2) job)
passed_same s first (Band low high) shares tapes work tally p side =
    let own : get_or shares 0 0 < modulus s.n = p.y_fits 0 (omega arith) in
    rw (get_d_map (λ v. v % modulus s.n) (mod-eq_of_lt (omega (arith, own))) shares 0, mod-eq_of_lt own) refl

-- ---- the book of a log

-- the box opened that job: it is found by its first number, and what it asks is in range
pub record Took (log : List Event) (b : Box) (key : Key) : Type 0 where
  pub within : taken_at log b key.first < length log
  pub key_is : key_found log b key.first ≡ key
  pub fits : task_fits key.width key.task ≡ true

abbrev pub book_of : (Box → ℕ → Lending) → List Event → Box → Key → Lending
book_of shares log c key = clip key.width (shares c (taken_at log c key.first))

-- and by each of its other numbers
pub took_all : (log : List Event) → Once log → (b : Box) (key : Key) → Took log b key → (i : ℕ) → i < count_of key.task
    → taken_at log b (key.first + i) ≡ taken_at log b key.first
took_all log once b key t i less =
    let place = taken_at log b key.first in
    let o = opening b key.first (event_at log place) (taken_there log b key.first t.within) in
    let from : (event_at log place).key.first ≤ key.first + i = rw t.key_is (omega arith) in
    let below : key.first + i < (event_at log place).key.first + count_of (event_at log place).key.task = rw t.key_is (omega arith) in
    once b (key.first + i) place t.within
    (takes_lem b (key.first + i) (event_at log place) (record { box = o.box; from = from; below = below; told = o.told }))

-- the log of the run from here on finds a start that is not refused
module _ (g : Setting) (log : List Event) (es : List Entry) (place : ℕ) (w : World) (c : Box) (marked : Marked w)
    (at : length w.log ≡ place) where
  module _ (first : ℕ) (task : Task) (lent : Lent) (end : (run g (suc place) (stepped g place w c (start first task lent)) es).log ≡ log)
      (cause : start_ground (memory_of w c).state first task (g.shares c place) (tape_words g lent) (memory_of w c).work (memory_of w c).tally
      ≡ 0) where
    some : 0 < count_of task
    some = (count_most (count_of task) (start_passed (memory_of w c).state first task _ _ _ _ cause).counted).0

    pub start_at : taken_at log c first ≡ place
    start_at =
        ap (taken_at log c) (sym (add-zero first)) ∙ ap (λ (l : List Event). taken_at l c (first + 0)) (sym end)
        ∙ found g place w c first task lent es marked cause 0 some ∙ at

    pub start_took : Took log c (job_key first task (memory_of w c).state.n)
    start_took =
        let grown = run_grows g (suc place) (stepped g place w c (start first task lent)) es in
        let long : length log ≡ suc (length w.log) + length grown.more =
        ap length (sym end ∙ grown.is) ∙ length-append (stepped g place w c (start first task lent)).log grown.more
        ∙ ap (λ (k : ℕ). k + length grown.more) (next_place g place w c (start first task lent)) in
        record {
          within = omega (arith, start_at, long, at);
          key_is =
              ap (key_found log c) (sym (add-zero first)) ∙ ap (λ (l : List Event). key_found l c (first + 0)) (sym end)
              ∙ found_key g place w c first task lent es marked cause 0 some;
          fits = (start_passed (memory_of w c).state first task _ _ _ _ cause).fits;
        }

  pub booked : (step : Step) → (run g (suc place) (stepped g place w c step) es).log ≡ log
      → Booked g (book_of g.shares log) (Took log) place w c step
  booked (wake n side p) end = tt
  booked (start first task lent) end =
      λ cause.
      let m = memory_of w c in (
        λ side. ap (λ (k : ℕ). pairs_of side task (clip m.state.n (g.shares c k))) (start_at first task lent end cause)
            ∙ passed_same m.state first task (g.shares c place) _ _ _ (start_passed m.state first task _ _ _ _ cause) side,
        start_took first task lent end cause,
      )
  booked (speak first round lent out) end = tt
  booked (hear first round lent incoming) end = tt
  booked drop end = tt
  booked (cut room) end = tt
  booked (cut_start first task lent at mark room) end = tt

  -- the second run's shares stand at the same places
  pub booked_too : (g' : Setting) (w' : World) (step : Step) → LowEquivalent w w' → SameGround g g' place w w' c step
      → (run g (suc place) (stepped g place w c step) es).log ≡ log
      → Booked g' (book_of g'.shares log) (Took log) place w' c step
  booked_too g' w' (wake n side p) k f end = tt
  booked_too g' w' (start first task lent) k f end =
      λ cause.
      let m' = memory_of w' c in (
        λ side. ap (λ (k : ℕ). pairs_of side task (clip m'.state.n (g'.shares c k))) (start_at first task lent end (f ∙ cause))
            ∙ passed_same m'.state first task (g'.shares c place) _ _ _ (start_passed m'.state first task _ _ _ _ cause) side,
        rw (← (k.memories c).state.n) (start_took first task lent end (f ∙ cause)),
      )
  booked_too g' w' (speak first round lent out) k f end = tt
  booked_too g' w' (hear first round lent incoming) k f end = tt
  booked_too g' w' drop k f end = tt
  booked_too g' w' (cut room) k f end = tt
  booked_too g' w' (cut_start first task lent at mark room) k f end = tt
