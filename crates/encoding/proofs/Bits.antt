-- Two codes of n bits are equal just when all of their n bits are.
use Prim.Native.Nat.{ℕ, zero, suc, ◌+◌, ◌/◌, ◌%◌, ◌^◌, ◌<◌, ◌≤◌}
use mathlib.Core.Path.{◌≡◌, refl, ◌∙◌}
use mathlib.Core.Bool.{Bool, true, false}
use native.Mathlib.Nat.{div-one}
use native.Mathlib.Omega.{arith}
use borrow.Author.Tests.{eq-eqb, eqb-true}
use lib.Dec.{eqb}
use Rattle.lists.proofs.Sums.{sum_first, sum_most}
use Rattle.encoding.specs.Codes.{bit_of}
use Rattle.encoding.specs.Matching.{indicator, same_bits}
use Rattle.encoding.proofs.Halves.{shifted, half_below}
use Rattle.encoding.proofs.Counts.{indicator_most}

pub same_all : (n c : ℕ) → same_bits n c c ≡ n
unfolding same_bits
same_all zero c = refl
same_all (suc n) c = rw (eq-eqb (bit_of c n) (bit_of c n) refl) (omega (arith, same_all n c))

-- the last bit, and the bits of the halves
same_halves : (n c d : ℕ) → same_bits (suc n) c d ≡ indicator (eqb (c % 2) (d % 2)) + same_bits n (c / 2) (d / 2)
unfolding same_bits
same_halves n c d = sum_first n (λ k. indicator (eqb (bit_of c k) (bit_of d k))) ∙ simp (div-one, shifted)

pub same_most : (n c d : ℕ) → same_bits n c d ≤ n
unfolding same_bits
same_most n c d =
    sum_most n (λ k. indicator (eqb (bit_of c k) (bit_of d k))) (λ k l. indicator_most (eqb (bit_of c k) (bit_of d k)))

pub same_fewer : (n c d : ℕ) → c < 2 ^ n → d < 2 ^ n → (c ≡ d → ⊥) → same_bits n c d < n
same_fewer zero c d lc ld ne = absurd (ne (omega arith))
same_fewer (suc n) c d lc ld ne =
    rw (same_halves n c d)
    (by_last (eqb (c % 2) (d % 2)) refl (λ h. same_fewer n (c / 2) (d / 2) (half_below n lc) (half_below n ld) h))
  where
    by_last : (t : Bool) → eqb (c % 2) (d % 2) ≡ t → ((c / 2 ≡ d / 2 → ⊥) → same_bits n (c / 2) (d / 2) < n)
        → indicator t + same_bits n (c / 2) (d / 2) < suc n
    by_last true e fewer = omega (arith, fewer (λ h. ne (omega (arith, eqb-true (c % 2) (d % 2) e))))
    by_last false e fewer = omega (arith, same_most n (c / 2) (d / 2))
