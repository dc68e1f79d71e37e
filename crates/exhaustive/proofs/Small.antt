-- The widths that are run whole: how small p is, and how many bounds there are.
use Prim.Native.Nat.{ℕ, ◌*◌, ◌^◌, ◌<◌, ◌≤◌}
use mathlib.Core.Bool.{Bool, true, ◌&&◌, ◌||◌}
use mathlib.Core.Logic.{⊎_elim}
use mathlib.Core.Path.{◌≡◌, refl}
use native.Mathlib.Nat.{mul-le-mul}
use native.Mathlib.Omega.{arith}
use borrow.Author.Tests.{ltb-true, leb-true, eqb-true}
use lib.Dec.{eqb, leb, ltb}
use lib.Pow.{pow_mono}
use Rattle.lists.specs.Tabulate.{sum}
use Rattle.lists.proofs.Tests.{and_left, and_right, or_cases}
use Rattle.field.specs.Width.{widths, listed, modulus}
use Rattle.field.proofs.Widths.{all, each_listed, bounds}
use Rattle.exhaustive.specs.Bands.{bounds_at, pairs_of_bounds}

-- a test that antt computes at these widths: of all pairs below p so many are bounds
abbrev counted : ℕ → Bool
counted p = eqb (sum (p * p) (bounds_at p)) (pairs_of_bounds p) && leb (pairs_of_bounds p) 465

all_counted : all (λ n. ltb 5 n || counted (modulus n)) widths ≡ true
unfolding modulus
all_counted = refl

small_counted : {n : ℕ} → listed n ≡ true → n ≤ 5 → counted (modulus n) ≡ true
small_counted {n} l most =
    ⊎_elim
    (λ wide. absurd (omega (arith, ltb-true 5 n wide, most)))
    (λ test. test)
    (or_cases (ltb 5 n) (counted (modulus n)) (each_listed (λ w. ltb 5 w || counted (modulus w)) all_counted l))

pub record Small (p : ℕ) : Type 0 where
  pub some : 0 < p
  pub few : p ≤ 31
  pub pairs : p * p ≤ 961
  pub bounds : sum (p * p) (bounds_at p) ≡ pairs_of_bounds p
  pub few_bounds : pairs_of_bounds p ≤ 465

pub small : {n : ℕ} → listed n ≡ true → n ≤ 5 → Small (modulus n)
unfolding modulus
small {n} l most =
    let b = bounds l in
    let power : 2 ^ n ≤ 2 ^ 5 = pow_mono most in
    let few : modulus n ≤ 31 = omega (arith, b.power) in
    let p = modulus n in
    let as_counted = eqb (sum (p * p) (bounds_at p)) (pairs_of_bounds p) in
    let few_counted = leb (pairs_of_bounds p) 465 in
    record {
      some = omega (arith, b.seven);
      few = few;
      pairs = mul-le-mul few few;
      bounds = eqb-true (sum (p * p) (bounds_at p)) (pairs_of_bounds p) (and_left as_counted few_counted (small_counted l most));
      few_bounds = leb-true (pairs_of_bounds p) 465 (and_right as_counted few_counted (small_counted l most));
    }
