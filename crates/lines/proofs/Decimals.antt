-- The laws of the decimal spelling.
use Prim.Native.Nat.{ℕ, zero, suc, ◌+◌, ◌/◌, ◌%◌, ◌^◌, ◌<◌, ◌≤◌}
use mathlib.Core.Path.{◌≡◌, refl, ap, ◌∙◌}
use mathlib.Core.List.{[], ◌∷◌, ◌++◌}
use mathlib.Core.Logic.{⊎_elim}
use native.Mathlib.Nat.{not-suc-le-zero, pow-suc, div-lt_iff_lt-mul}
use native.Mathlib.Omega.{arith}
use borrow.Author.Tests.{lt-ltb, le-ltb}
use lib.ListN.{length, length-append}
use Rattle.lines.specs.Writing.{digits_of, decimal}
use Rattle.std.proofs.lemmas.Bool.{cases_lt}

-- any count of digits that is large enough gives the same
digits_same : (m k v : ℕ) → v < m → v < k → digits_of m v ≡ digits_of k v
unfolding digits_of
digits_same zero k v h g = absurd (not-suc-le-zero h)
digits_same (suc m) zero v h g = absurd (not-suc-le-zero g)
digits_same (suc m) (suc k) v h g =
    ⊎_elim
    (λ few. rw (lt-ltb v 10 few) refl)
    (λ ten. rw (le-ltb v 10 ten, digits_same m k (v / 10) (omega arith) (omega arith)) refl)
    (cases_lt v 10)

pub decimal_one : (v : ℕ) → v < 10 → decimal v ≡ (48 + v) ∷ []
unfolding digits_of
decimal_one v h = rw (lt-ltb v 10 h)

pub decimal_more : (v : ℕ) → 10 ≤ v → decimal v ≡ decimal (v / 10) ++ ((48 + v % 10) ∷ [])
unfolding digits_of
decimal_more v h = rw (le-ltb v 10 h, digits_same v (suc (v / 10)) (v / 10) (omega arith) (omega arith))

pub length-decimal : (v : ℕ) → 10 ≤ v → length (decimal v) ≡ length (decimal (v / 10)) + 1
length-decimal v h = ap length (decimal_more v h) ∙ length-append (decimal (v / 10)) ((48 + v % 10) ∷ [])

digits_most : (m d v : ℕ) → v < 10 ^ suc d → length (digits_of m v) ≤ suc d
unfolding digits_of
digits_most zero d v h = omega arith
digits_most (suc m) zero v h = rw (lt-ltb v 10 (omega (arith, h))) (omega arith)
digits_most (suc m) (suc d) v h =
    let less : v / 10 < 10 ^ suc d = (div-lt_iff_lt-mul {k = 10} (omega arith)).1 (rw (pow-suc 10 (suc d)) at h) in
    ⊎_elim
    (λ few. rw (lt-ltb v 10 few) (omega arith))
    (λ ten. rw (le-ltb v 10 ten) (omega (arith, length-append (digits_of m (v / 10)) ((48 + v % 10) ∷ []), digits_most m d (v / 10) less)))
    (cases_lt v 10)

-- a word has at most ten digits
pub decimal_most : (v : ℕ) → v < 4294967296 → length (decimal v) ≤ 10
decimal_most v h = digits_most (suc v) 9 v (omega arith)

pub decimal_some : (v : ℕ) → 0 < length (decimal v)
decimal_some v =
    ⊎_elim
    (λ few. rw (decimal_one v few) (omega arith))
    (λ ten. rw (length-decimal v ten) (omega arith))
    (cases_lt v 10)

pub ruleset spellings = (decimal_one, decimal_more, length-decimal, decimal_some)
