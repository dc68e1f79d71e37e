-- What holds of every listed width: a test that antt computes over the seven, and the bounds that the arithmetic uses.
use Rattle.std.proofs.Common.{◌≡◌, ℕ, ◌+◌, ◌-◌, ◌*◌, ◌^◌, ◌<◌, ◌≤◌, Bool, true, ◌&&◌, eqb, leb, List, [], ◌∷◌, refl, ⊎_elim, le_of_lt, mul-le-mul_right, mul-le-mul, mul-le-mul_left, arith, pow_mono, eqb-true, leb-true}
use mathlib.Core.Bool.{false≢true}
use Rattle.lists.proofs.Tests.{and_left, and_right, or_cases}
use Rattle.field.specs.Width.{among, widths, listed, modulus}

-- ---- one test over all widths

abbrev pub all : (ℕ → Bool) → List ℕ → Bool
all f [] = true
all f (w ∷ ws) = f w && all f ws

all_among : (f : ℕ → Bool) (n : ℕ) (ws : List ℕ) → all f ws ≡ true → among n ws ≡ true → f n ≡ true
all_among f n [] e m = absurd (false≢true m)
all_among f n (w ∷ ws) e m =
    ⊎_elim
    (λ here. rw (eqb-true n w here) (and_left (f w) (all f ws) e))
    (λ later. all_among f n ws (and_right (f w) (all f ws) e) later)
    (or_cases (eqb n w) (among n ws) m)

-- what a test computes of the seven widths holds of each listed one
pub each_listed : (f : ℕ → Bool) → all f widths ≡ true → {n : ℕ} → listed n ≡ true → f n ≡ true
unfolding listed
each_listed f e {n} l = all_among f n widths e l

-- ---- the bounds

pub record Bounds (n : ℕ) : Type 0 where
  pub least : 3 ≤ n
  pub most : n ≤ 31
  pub power : modulus n + 1 ≡ 2 ^ n
  pub seven : 7 ≤ modulus n
  pub wide : 2 * n ≤ modulus n
  pub word : modulus n < 2 ^ 31
  pub square : modulus n * modulus n < 2 ^ 62

pub bounds : {n : ℕ} → listed n ≡ true → Bounds n
unfolding modulus
bounds {n} l =
    let low : 3 ≤ n = leb-true 3 n (each_listed (λ w. leb 3 w) refl l) in
    let high : n ≤ 31 = leb-true n 31 (each_listed (λ w. leb w 31) refl l) in
    let some : 2 ^ 3 ≤ 2 ^ n = pow_mono low in
    let few : 2 ^ n ≤ 2 ^ 31 = pow_mono high in
    let few_more : modulus n ≤ 2 ^ 31 - 1 = omega arith in
    record {
      least = low;
      most = high;
      power = omega arith;
      seven = omega arith;
      wide = leb-true (2 * n) (modulus n) (each_listed (λ w. leb (2 * w) (modulus w)) refl l);
      word = omega arith;
      square = omega (arith, mul-le-mul few_more few_more);
    }

-- a product of two words below p leaves room for p more below p²
pub product_below : {p a b : ℕ} → a < p → b < p → a * b + p ≤ p * p
product_below {p} {a} {b} la lb =
    omega (arith, mul-le-mul_left a (le_of_lt lb), mul-le-mul_right p la)
