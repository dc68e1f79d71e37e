-- The three values that the tests look at: x, y and x − y; and that the doubled shares add up to twice each.
use Prim.Native.Nat.{ℕ, zero, suc, ◌+◌, ◌-◌, ◌%◌, ◌<◌}
use mathlib.Core.Path.{◌≡◌}
use mathlib.Core.Bool.{true}
use native.Mathlib.Nat.{mod-lt, le_of_lt}
use native.Mathlib.Omega.{arith}
use Rattle.field.proofs.Subtraction.{minus_below, minus_plus, minus_total}
use Rattle.field.specs.Subtraction.{minus}
use Rattle.field.specs.Width.{modulus, listed}
use Rattle.field.specs.Congruence.{Cong}
use Rattle.field.proofs.Widths.{bounds}
use Rattle.field.proofs.Congruences.{cong_refl, cong_eq, cong_sym, ◌⊙◌, cong_mod, cong_add, cong_cancel}
use Rattle.protocol.specs.Tests.{doubled}
use Rattle.protocol.specs.Clear.{value_of}

module _ (n : ℕ) (l : listed n ≡ true) where
  below : (x : ℕ) → x % modulus n < modulus n
  below x = mod-lt x (omega (arith, bounds l))

  pub doubled_below : (x y test : ℕ) → doubled n x y test < modulus n
  doubled_below x y zero = below (x + x)
  doubled_below x y (suc zero) = below (y + y)
  doubled_below x y (suc (suc t)) = below (minus n x y + minus n x y)

  pub value_below : (x1 y1 x2 y2 test : ℕ) → value_of n x1 y1 x2 y2 test < modulus n
  value_below x1 y1 x2 y2 zero = below (x1 + x2)
  value_below x1 y1 x2 y2 (suc zero) = below (y1 + y2)
  value_below x1 y1 x2 y2 (suc (suc t)) = minus_below n _ _ l

  -- twice a share and twice the other, reduced
  twice : (a b v : ℕ) → Cong (modulus n) (a + b) v → Cong (modulus n) ((a + a) % modulus n + (b + b) % modulus n) (v + v)
  twice a b v h = cong_add cong_mod cong_mod ⊙ cong_eq {b = (a + b) + (a + b)} (omega arith) ⊙ cong_add h h

  pub doubled_total : (x1 y1 x2 y2 test : ℕ) → y1 < modulus n → y2 < modulus n
      → Cong (modulus n) (doubled n x1 y1 test + doubled n x2 y2 test) (value_of n x1 y1 x2 y2 test + value_of n x1 y1 x2 y2 test)
  doubled_total x1 y1 x2 y2 zero l1 l2 = twice x1 x2 ((x1 + x2) % modulus n) (cong_sym cong_mod)
  doubled_total x1 y1 x2 y2 (suc zero) l1 l2 = twice y1 y2 ((y1 + y2) % modulus n) (cong_sym cong_mod)
  doubled_total x1 y1 x2 y2 (suc (suc t)) l1 l2 =
      let p = modulus n in
      let x = (x1 + x2) % p in
      let y = (y1 + y2) % p in
      twice (minus n x1 y1) (minus n x2 y2) (minus n x y)
      (cong_cancel y (omega (arith, bounds l))
      (cong_add cong_refl cong_mod
      ⊙ minus_total n x1 x2 y1 y2 (le_of_lt l1) (le_of_lt l2)
      ⊙ cong_sym cong_mod
      ⊙ cong_sym (minus_plus n x y (le_of_lt (below (y1 + y2))))))
