-- What the two boxes' shares add up to, for the steps that need no opening: 1 − v, u + v − 2·u·v, and a difference of two sums.
use Prim.Native.Nat.{ℕ, ◌+◌, ◌-◌, ◌*◌, ◌%◌, ◌<◌, ◌≤◌}
use mathlib.Core.Path.{◌≡◌, sym}
use mathlib.Core.Bool.{true}
use native.Mathlib.Nat.{le_of_lt, mod-lt}
use native.Mathlib.Omega.{arith}
use Rattle.field.specs.Width.{modulus, listed}
use Rattle.field.specs.Congruence.{Cong}
use Rattle.field.specs.Subtraction.{minus}
use Rattle.field.proofs.Subtraction.{minus_plus, minus_total}
use Rattle.field.proofs.Widths.{bounds}
use Rattle.field.proofs.Congruences.{cong_refl, cong_eq, cong_sym, ◌⊙◌, cong_mod, cong_add, cong_cancel, cong_double}
use Rattle.shares.specs.Side.{is_side, other}
use Rattle.shares.specs.Share.{constant_share}
use Rattle.shares.proofs.Sides.{constant_total}
use Rattle.protocol.specs.Tests.{complement, exclusive}

module _ (n : ℕ) (l : listed n ≡ true) where
  -- from a sum, what one part of it is
  part : (a b c d : ℕ) → Cong (modulus n) (a + b) c → Cong (modulus n) b d → (e : ℕ) → e + d ≡ c → Cong (modulus n) a e
  part a b c d sum same e total =
      cong_cancel d (omega (arith, bounds l)) (cong_add cong_refl (cong_sym same) ⊙ sum ⊙ cong_eq (sym total))

  pub complement_total : (side : ℕ) → is_side side ≡ true → (v1 v2 v : ℕ) → v1 < modulus n → v2 < modulus n
      → Cong (modulus n) (v1 + v2) v → v ≤ 1
      → Cong (modulus n) (complement n side v1 + complement n (other side) v2) (1 - v)
  unfolding complement
  complement_total side s v1 v2 v l1 l2 same bit =
      part _ (v1 + v2) 1 v
      (minus_total n (constant_share side 1) (constant_share (other side) 1) v1 v2 (le_of_lt l1) (le_of_lt l2)
      ⊙ cong_eq (constant_total side 1 s))
      same (1 - v) (omega arith)

  pub exclusive_total : (u1 u2 q1 q2 u q e : ℕ)
      → Cong (modulus n) (u1 + u2) u → Cong (modulus n) (q1 + q2) q → e + 2 * q ≡ u
      → Cong (modulus n) (exclusive n u1 q1 + exclusive n u2 q2) e
  unfolding exclusive
  exclusive_total u1 u2 q1 q2 u q e hu hq total =
      let p = modulus n in
      let below : (x : ℕ) → x % p ≤ p = λ x. le_of_lt (mod-lt x (omega (arith, bounds l))) in
      part _ ((q1 + q1) % p + (q2 + q2) % p) u (2 * q)
      (minus_total n u1 u2 ((q1 + q1) % p) ((q2 + q2) % p) (below (q1 + q1)) (below (q2 + q2)) ⊙ hu)
      (cong_add cong_mod cong_mod ⊙ cong_eq {b = 2 * (q1 + q2)} (omega arith) ⊙ cong_double hq)
      e total

  pub difference_total : (a1 a2 t1 t2 a t : ℕ) → t1 ≤ modulus n → t2 ≤ modulus n
      → Cong (modulus n) (a1 + a2) a → Cong (modulus n) (t1 + t2) t
      → Cong (modulus n) (minus n a1 t1 + minus n a2 t2) (minus n a (t % modulus n))
  difference_total a1 a2 t1 t2 a t l1 l2 ha ht =
      let pos : 0 < modulus n = omega (arith, bounds l) in
      cong_cancel t pos
      (cong_add cong_refl (cong_sym ht)
      ⊙ minus_total n a1 a2 t1 t2 l1 l2
      ⊙ ha
      ⊙ cong_sym (minus_plus n a (t % modulus n) (le_of_lt (mod-lt t pos)))
      ⊙ cong_add cong_refl cong_mod)
