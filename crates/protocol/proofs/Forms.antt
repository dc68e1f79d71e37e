-- The two forms of the answer are one number, and for the half tests of x, y and x − y it is the bit of x < y.
use Prim.Native.Nat.{ℕ, ◌+◌, ◌*◌, ◌%◌, ◌<◌}
use mathlib.Core.Path.{◌≡◌, sym, ◌∙◌}
use mathlib.Core.Bool.{true}
use native.Mathlib.Nat.{le_of_lt}
use native.Mathlib.Omega.{arith}
use lib.Dec.{ltb}
use Rattle.field.specs.Width.{modulus, listed}
use Rattle.field.specs.Subtraction.{minus}
use Rattle.field.specs.Congruence.{Cong}
use Rattle.field.proofs.Subtraction.{minus_plus, minus_unique}
use Rattle.field.proofs.Widths.{bounds}
use Rattle.field.proofs.Congruences.{cong_refl, cong_eq, cong_sym, ◌⊙◌, cong_mod, cong_add, cong_mul, cong_cancel}
use Rattle.encoding.specs.Matching.{indicator}
use Rattle.protocol.specs.Clear.{half}
use Rattle.protocol.specs.Forms.{five_rounds, six_rounds, Forms}
use Rattle.protocol.proofs.Below.{mod_below}
use Rattle.protocol.proofs.Halves.{compared, indicator_bit}

module _ (n : ℕ) (l : listed n ≡ true) where
  abbrev p : ℕ
  p = modulus n

  pos : 0 < p
  pos = omega (arith, bounds l)

  -- a difference modulo p, and what was taken away
  back : (a b : ℕ) → Cong p (minus n a (b % p) + b) a
  back a b = cong_add cong_refl (cong_sym cong_mod) ⊙ minus_plus n a (b % p) (le_of_lt (mod_below n l b))

  -- what comes to it when U + Z + 2·H·U·Z is added is the five rounds' form
  five_is : (h u z w : ℕ) → w < p → Cong p (w + (u + z + 2 * (h * u * z))) (1 + h * u + h * z + u * z) → five_rounds n h u z ≡ w
  unfolding five_rounds
  five_is h u z w below sum = minus_unique n _ _ w l (le_of_lt (mod_below n l _)) below (cong_add cong_refl cong_mod ⊙ sum)

  -- B · C, B being K's first factor and C its second: added to z times 1 + 2·M and to H + U
  factors : (h u z : ℕ) → let b = minus n (1 + 2 * (h * u)) ((h + u) % p) in
      let c = minus n 1 (z % p) in
      Cong p (b * c + (1 + 2 * (h * u)) * z + (h + u)) (1 + 2 * (h * u) + (h + u) * z)
  factors h u z =
      let k = 1 + 2 * (h * u) in
      let s = h + u in
      let b = minus n k (s % p) in
      let c = minus n 1 (z % p) in
      cong_add (cong_add cong_refl (cong_mul (cong_sym (back k s)) cong_refl)) cong_refl
      ⊙ cong_eq {b = b * (c + z) + (s * z + s)} (omega arith)
      ⊙ cong_add (cong_mul cong_refl (back 1 z)) cong_refl
      ⊙ cong_eq {b = (b + s) + s * z} (omega arith)
      ⊙ cong_add (back k s) cong_refl

  pub same_form : (h u z : ℕ) → five_rounds n h u z ≡ six_rounds n h u z
  unfolding six_rounds
  same_form h u z =
      let a = minus n h (h * u % p) in
      let b = minus n (1 + 2 * (h * u)) ((h + u) % p) in
      let c = minus n 1 (z % p) in
      five_is h u z ((a + b * c) % p) (mod_below n l _)
      (cong_add cong_mod cong_refl
      ⊙ cong_cancel (h + h * u) pos
      (cong_eq {b = (a + h * u) + (b * c + (1 + 2 * (h * u)) * z + (h + u))} (omega arith)
      ⊙ cong_add (back h (h * u)) (factors h u z)
      ⊙ cong_eq (omega arith)))

  pub five_bit : (x y : ℕ) → x < p → y < p → five_rounds n (half p x) (half p y) (half p (minus n x y)) ≡ indicator (ltb x y)
  five_bit x y lx ly =
      five_is _ _ _ (indicator (ltb x y)) (omega (arith, bounds l, indicator_bit (ltb x y))) (cong_eq (compared n x y l lx ly))

pub forms : Forms
forms =
    record {
      same = λ n h u z l. same_form n l h u z;
      bit = λ n x y l lx ly. (five_bit n l x y lx ly, sym (same_form n l _ _ _) ∙ five_bit n l x y lx ly);
    }
