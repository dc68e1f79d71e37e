-- Each of 1 .. n + 1 has an inverse modulo p, at every listed width n: one test that antt computes, and one lemma.
use Rattle.std.proofs.Common.{◌≡◌, ℕ, ◌+◌, ◌-◌, ◌*◌, ◌%◌, ◌<◌, ◌≤◌, Bool, true, eqb, sym, refl, ◌∙◌, mod-eq_of_lt, arith, eqb-true}
use Rattle.lists.specs.Every.{every}
use Rattle.lists.proofs.Every.{every_at}
use Rattle.field.specs.Width.{widths, listed, modulus}
use Rattle.field.specs.Congruence.{Cong}
use Rattle.field.specs.Inverse.{inverse}
use Rattle.field.proofs.Widths.{all, each_listed, bounds}

unit : ℕ → ℕ → Bool
unit n k = eqb (k * inverse n k % modulus n) 1

-- the test at 1 .. n + 1
units : ℕ → Bool
units n = every (n + 1) (λ k. unit n (k + 1))

all_units : all units widths ≡ true
unfolding units unit inverse modulus
all_units = refl

pub inverse_right : (n k : ℕ) → listed n ≡ true → 0 < k → k ≤ n + 1 → Cong (modulus n) (k * inverse n k) 1
unfolding units unit
inverse_right n k l pos most =
    let j = k - 1 in
    let back : j + 1 ≡ k = omega arith in
    let here = every_at (n + 1) (λ i. unit n (i + 1)) (each_listed units all_units l) j (omega arith) in
    record { same = eqb-true (k * inverse n k % modulus n) 1 (rw back at here) ∙ sym (mod-eq_of_lt (omega (arith, bounds l))) }
