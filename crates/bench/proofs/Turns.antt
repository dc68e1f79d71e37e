-- How many turns pass a test.
use Prim.Native.Nat.{ℕ, zero, suc, ◌+◌, ◌*◌, ◌<◌, ◌≤◌}
use mathlib.Core.Path.{◌≡◌, refl, ap, ◌∙◌}
use mathlib.Core.Bool.{Bool, true, false, cond, false≢true}
use mathlib.Core.Logic.{⊎_elim}
use mir.Val.{bool_byte}
use native.Mathlib.Nat.{eq-or-lt_of_le}
use mathlib.Core.List.{List, ◌∷◌}
use native.Mathlib.Omega.{arith}
use lib.ListN.{length}
use Rattle.std.specs.List.{filter, range_with_len}
use Rattle.lists.specs.Tabulate.{sum}
use Rattle.lists.proofs.Sums.{sum_first, sum_same, sum_equal}
use Rattle.encoding.specs.Matching.{indicator}

one : (found : Bool) (x : ℕ) (xs : List ℕ) → length (cond found (x ∷ xs) xs) ≡ indicator found + length xs
one true x xs = omega arith
one false x xs = omega arith

same : (test : ℕ → Bool) {a b : ℕ} → a ≡ b → indicator (test a) ≡ indicator (test b)
same test e = ap (λ k. indicator (test k)) e

from : (test : ℕ → Bool) (a count : ℕ) → length (filter test (range_with_len a count)) ≡ sum count (λ i. indicator (test (a + i)))
from test a zero = refl
from test a (suc count) =
    let right = λ (i : ℕ). indicator (test (a + i)) in
    let here : right 0 ≡ indicator (test a) = same test (omega arith) in
    let others = sum_same count (λ i. indicator (test (a + 1 + i))) (λ i. right (suc i)) (λ i less. same test (omega arith)) in
    omega (arith, one (test a) a (filter test (range_with_len (a + 1) count)), from test (a + 1) count, here, others, sum_first count right)

pub turns_right : (test : ℕ → Bool) (count : ℕ) → length (filter test (range_with_len 0 count)) ≡ sum count (λ i. indicator (test i))
turns_right test count =
    from test 0 count ∙ sum_same count (λ i. indicator (test (0 + i))) (λ i. indicator (test i)) (λ i less. same test (omega arith))

-- where each comes out alike
pub turns_alike : (found : Bool) (count : ℕ) → length (filter (λ _. found) (range_with_len 0 count)) ≡ count * indicator found
turns_alike found count = turns_right (λ _. found) count ∙ sum_equal count (λ _. indicator found) (indicator found) (λ i less. refl)

-- ---- counted up, turn by turn

-- where as many were right as there were turns each was, and so it stays
module _ (Good : ℕ → Type 0) (Dealt : Type 0) {right turn : ℕ} (few : right ≤ turn) (all : right ≡ turn → (t : ℕ) → t < turn → Good t)
    (dealt : Dealt → right ≡ turn) where
  pub turn_counted : (own : Bool) → (own ≡ true → Good turn) → (Dealt → own ≡ true)
      → (right + bool_byte own ≤ turn + 1)
      × (right + bool_byte own ≡ turn + 1 → (t : ℕ) → t < turn + 1 → Good t)
      × (Dealt → right + bool_byte own ≡ turn + 1)
  turn_counted true good sure = (
    omega (arith, few),
    λ e t less. ⊎_elim (λ same. rw same (good refl)) (λ before. all (omega (arith, e)) t before) (eq-or-lt_of_le (omega (arith, less))),
    λ d. omega (arith, dealt d),
  )
  turn_counted false good sure =
      (omega (arith, few), λ e. absurd (omega (arith, e, few)), λ d. absurd (false≢true (sure d)))
