-- P is 0 at 1 .. n and 1 at n + 1, at every listed width n: one test that antt computes over the whole table, and one lemma.
-- So P(1 + the number of equal bits) tells equal codes.
use Prim.Native.Nat.{ℕ, ◌+◌, ◌-◌, ◌%◌, ◌^◌, ◌<◌, ◌≤◌}
use mathlib.Core.Path.{◌≡◌, refl, sym, ◌∙◌}
use mathlib.Core.Bool.{Bool, true, false}
use native.Mathlib.Nat.{add_comm, mod-eq_of_lt, zero-mod}
use native.Mathlib.Omega.{arith}
use borrow.Author.Tests.{eqb-true, eqb-false, ltb-true}
use lib.Dec.{eqb, ltb}
use Rattle.lists.specs.Every.{every}
use Rattle.lists.proofs.Every.{every_at}
use Rattle.field.specs.Width.{widths, listed, modulus}
use Rattle.field.specs.Congruence.{Cong}
use Rattle.field.proofs.Widths.{all, each_listed, bounds}
use Rattle.encoding.specs.Matching.{indicator, same_bits}
use Rattle.encoding.specs.Polynomial.{coefficient, polynomial}
use Rattle.encoding.proofs.Bits.{same_all, same_fewer}

-- P(t) modulo p
value : ℕ → ℕ → ℕ
value n t = polynomial n t % modulus n

-- 0 at 1 .. n, and 1 at n + 1
right_zeros : ℕ → Bool
right_zeros n = every n (λ j. eqb (value n (j + 1)) 0)

right_one : ℕ → Bool
right_one n = eqb (value n (n + 1)) 1

all_zeros : all right_zeros widths ≡ true
unfolding right_zeros value polynomial coefficient modulus
all_zeros = refl

all_ones : all right_one widths ≡ true
unfolding right_one value polynomial coefficient modulus
all_ones = refl

pub zero_at_lem : (n t : ℕ) → listed n ≡ true → 1 ≤ t → t ≤ n → Cong (modulus n) (polynomial n t) 0
unfolding right_zeros value
zero_at_lem n t l least most =
    let j = t - 1 in
    let back : j + 1 ≡ t = omega arith in
    let here = every_at n (λ i. eqb (value n (i + 1)) 0) (each_listed right_zeros all_zeros l) j (omega arith) in
    record { same = eqb-true (value n t) 0 (rw back at here) ∙ sym (zero-mod (modulus n)) }

pub one_at : (n : ℕ) → listed n ≡ true → Cong (modulus n) (polynomial n (n + 1)) 1
unfolding right_one value
one_at n l =
    record { same = eqb-true (value n (n + 1)) 1 (each_listed right_one all_ones l) ∙ sym (mod-eq_of_lt (omega (arith, bounds l))) }

pub level_match_lem : (n c d : ℕ) → listed n ≡ true → c < 2 ^ n → d < 2 ^ n
    → Cong (modulus n) (polynomial n (1 + same_bits n c d)) (indicator (eqb c d))
level_match_lem n c d l lc ld = by_test (eqb c d) refl
  where
    by_test : (t : Bool) → eqb c d ≡ t → Cong (modulus n) (polynomial n (1 + same_bits n c d)) (indicator t)
    by_test true e =
        let same : same_bits n c d ≡ n = rw (eqb-true c d e) (same_all n d) in
        rw (same, add_comm 1 n) (one_at n l)
    by_test false e = zero_at_lem n (1 + same_bits n c d) l (omega arith) (omega (arith, same_fewer n c d lc ld (eqb-false c d e)))

-- ---- the coefficients are words below p

small : ℕ → Bool
small n = every (n + 1) (λ k. ltb (coefficient n k) (modulus n))

all_small : all small widths ≡ true
unfolding small coefficient modulus
all_small = refl

pub coefficient_below : (n k : ℕ) → listed n ≡ true → k ≤ n → coefficient n k < modulus n
unfolding small
coefficient_below n k l most =
    ltb-true (coefficient n k) (modulus n)
    (every_at (n + 1) (λ i. ltb (coefficient n i) (modulus n)) (each_listed small all_small l) k (omega arith))
