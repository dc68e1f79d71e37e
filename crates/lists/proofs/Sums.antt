-- The laws of sums.
use Prim.Native.Nat.{ℕ, zero, suc, ◌+◌, ◌*◌, ◌<◌, ◌≤◌}
use mathlib.Core.Path.{◌≡◌, refl}
use native.Mathlib.Numerals.{add-one}
use native.Mathlib.Omega.{arith}
use Rattle.lists.specs.Tabulate.{sum}

pub sum_same : (n : ℕ) (f g : ℕ → ℕ) → ((i : ℕ) → i < n → f i ≡ g i) → sum n f ≡ sum n g
sum_same zero f g h = refl
sum_same (suc n) f g h = rw (sum_same n f g (λ i l. h i (omega arith)), h n (omega arith))

-- of equal terms
pub sum_equal : (n : ℕ) (f : ℕ → ℕ) (term : ℕ) → ((i : ℕ) → i < n → f i ≡ term) → sum n f ≡ n * term
sum_equal zero f term h = omega arith
sum_equal (suc n) f term h = omega (arith, sum_equal n f term (λ i l. h i (omega arith)), h n (omega arith))

-- a turn of a loop that adds
pub sum_more : (n : ℕ) (f : ℕ → ℕ) → sum (n + 1) f ≡ sum n f + f n
sum_more n f = rw (add-one n)

pub sum_add : (n : ℕ) (f g : ℕ → ℕ) → sum n (λ i. f i + g i) ≡ sum n f + sum n g
sum_add zero f g = refl
sum_add (suc n) f g = omega (arith, sum_add n f g)

-- the first term taken apart
pub sum_first : (n : ℕ) (f : ℕ → ℕ) → sum (suc n) f ≡ f 0 + sum n (λ i. f (suc i))
sum_first zero f = omega arith
sum_first (suc n) f = omega (arith, sum_first n f)

pub sum_most : (n : ℕ) (f : ℕ → ℕ) → ((i : ℕ) → i < n → f i ≤ 1) → sum n f ≤ n
sum_most zero f h = omega arith
sum_most (suc n) f h = omega (arith, sum_most n f (λ i l. h i (omega arith)), h n (omega arith))
