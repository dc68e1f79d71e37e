-- What is compared shows where each tape was taken, and in which job.
use Prim.Native.Nat.{ℕ, zero, suc}
use mathlib.Core.Path.{◌≡◌, refl, sym, ap, ◌∙◌}
use mathlib.Core.List.{List, [], ◌∷◌}
use native.Mathlib.Omega.{arith}
use lib.ListN.{length}
use Rattle.guarantees.specs.Boxes.{Box}
use Rattle.guarantees.specs.Run.{Event, event_at}
use Rattle.guarantees.specs.Maps.{taken_at, key_found}
use Rattle.guarantees.specs.View.{view}
use Rattle.guarantees.proofs.LowEquivalence.{LowEvent}
use Rattle.guarantees.proofs.Outcomes.{kind_same, kind_at}

-- two logs that find the same places and jobs
abbrev pub SamePlaces : List Event → List Event → Type 0
SamePlaces log log' = (d : Box) (number : ℕ) → (taken_at log d number ≡ taken_at log' d number) × (key_found log d number ≡ key_found log' d number)

-- the keys at two places that are one
keys_at : (log log' : List Event) (k k' : ℕ) → k ≡ k' → (event_at log k).key ≡ (event_at log' k).key → (event_at log k).key ≡ (event_at log' k').key
keys_at log log' k k' same here = here ∙ ap (λ (i : ℕ). (event_at log' i).key) same

-- ---- a log and its view

taken_view : (b : Box) (log : List Event) (d : Box) (number : ℕ) → taken_at (view b log) d number ≡ taken_at log d number
taken_view b [] d number = refl
taken_view b (e ∷ log) d number = rw (kind_at b e.box e.said, taken_view b log d number)

key_view : (b : Box) (log : List Event) (k : ℕ) → (event_at (view b log) k).key ≡ (event_at log k).key
key_view b [] k = refl
key_view b (e ∷ log) zero = refl
key_view b (e ∷ log) (suc k) = key_view b log k

view_places : (b : Box) (log : List Event) → SamePlaces (view b log) log
view_places b log d number =
    let taken = taken_view b log d number in
    (taken, keys_at (view b log) log _ _ taken (key_view b log (taken_at (view b log) d number)))

pub same_view : (b : Box) (log log' : List Event) → view b log ≡ view b log' → SamePlaces log log'
same_view b log log' e d number =
    let own = view_places b log d number in
    let others = view_places b log' d number in (
      sym own.0 ∙ ap (λ (l : List Event). taken_at l d number) e ∙ others.0,
      sym own.1 ∙ ap (λ (l : List Event). key_found l d number) e ∙ others.1,
    )

-- ---- so does all that two runs have in common

taken_low : (log log' : List Event) → length log ≡ length log' → ((k : ℕ) → LowEvent (event_at log k) (event_at log' k))
    → (d : Box) (number : ℕ) → taken_at log d number ≡ taken_at log' d number
taken_low [] [] long each d number = refl
taken_low [] (e ∷ log') long each d number = absurd (omega (arith, long))
taken_low (e ∷ log) [] long each d number = absurd (omega (arith, long))
taken_low (e ∷ log) (e' ∷ log') long each d number =
    let se = each zero in
    rw (se.box, se.key, kind_same e.said e'.said se.said, taken_low log log' (omega (arith, long)) (λ k. each (suc k)) d number)

pub same_low : (log log' : List Event) → length log ≡ length log' → ((k : ℕ) → LowEvent (event_at log k) (event_at log' k)) → SamePlaces log log'
same_low log log' long each d number =
    let taken = taken_low log log' long each d number in
    (taken, keys_at log log' _ _ taken (each (taken_at log d number)).key)
