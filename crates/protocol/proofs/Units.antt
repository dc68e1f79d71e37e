-- The counts A and A' lie in 1 .. n + 1, so each has an inverse modulo p; and ρ = A' / A and the way back cancel.
use Prim.Native.Nat.{ℕ, ◌+◌, ◌*◌, ◌≤◌}
use mathlib.Core.Path.{◌≡◌}
use mathlib.Core.Bool.{true}
use native.Mathlib.Omega.{arith}
use Rattle.field.specs.Width.{modulus, listed}
use Rattle.field.specs.Congruence.{Cong}
use Rattle.field.specs.Inverse.{inverse}
use Rattle.field.proofs.Units.{inverse_right}
use Rattle.field.proofs.Congruences.{cong_refl, cong_eq, ◌⊙◌, cong_mul}

module _ (n : ℕ) (l : listed n ≡ true) (a a' : ℕ) (low : 1 ≤ a) (high : a ≤ n + 1) (low' : 1 ≤ a') (high' : a' ≤ n + 1) where
  -- ρ and its inverse
  pub unit : Cong (modulus n) ((a * inverse n a') * (a' * inverse n a)) 1
  unit =
      cong_eq {b = (a * inverse n a) * (a' * inverse n a')} (omega arith)
      ⊙ cong_mul (inverse_right n a l low high) (inverse_right n a' l low' high')

  -- A' · (A / A') is A
  pub restored : Cong (modulus n) (a' * (a * inverse n a')) a
  restored =
      cong_eq {b = a * (a' * inverse n a')} (omega arith)
      ⊙ cong_mul cong_refl (inverse_right n a' l low' high')
      ⊙ cong_eq (omega arith)
