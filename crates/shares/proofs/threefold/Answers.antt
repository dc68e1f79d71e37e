-- `shares::threefold` meets its contract: e · f, e · g and f · g stand for their remainders in the sum.
use Prim.Native.Nat.{ℕ, ◌+◌, ◌*◌, ◌%◌}
use mathlib.Core.Path.{◌≡◌, sym, ap, ◌∙◌}
use native.Mathlib.Nat.{mul-one}
use native.Mathlib.Omega.{arith}
use Rattle.field.specs.Width.{modulus}
use Rattle.field.specs.Congruence.{Cong}
use Rattle.field.proofs.Congruences.{cong_refl, cong_eq, ◌⊙◌, cong_mod, cong_add, cong_mul}
use Rattle.shares.specs.Share.{constant_share, threefold_share}
use Rattle.shares.proofs.Sides.{constant_times}
use Rattle.shares.proofs.threefold.Goals as goal

-- a public constant's share, by the constant modulo p
constant_cong : (side : ℕ) {p a b : ℕ} → Cong p a b → Cong p (constant_share side a) (constant_share side b)
constant_cong side {p} {a} {b} h = cong_eq (by_one a) ⊙ cong_mul h cong_refl ⊙ cong_eq (sym (by_one b))
  where
    by_one : (x : ℕ) → constant_share side x ≡ x * constant_share side 1
    by_one x = ap (constant_share side) (sym (mul-one x)) ∙ constant_times side x 1

-- the two sums of the code, whose products by two are reduced
reduced : (p side e f g a b c ab ac bc abc : ℕ)
    → ((abc + e * bc + f * ac + g * ab) % p + (constant_share side (e * f % p * g % p) + e * f % p * c + e * g % p * b + f * g % p * a) % p) % p
    ≡ (abc + e * bc + f * ac + g * ab + e * f * c + e * g * b + f * g * a + constant_share side (e * f * g)) % p
reduced p side e f g a b c ab ac bc abc = all.same
  where
    times : (x y z : ℕ) → Cong p (x * y % p * z) (x * y * z)
    times x y z = cong_mul cong_mod cong_refl

    all : Cong p
        ((abc + e * bc + f * ac + g * ab) % p + (constant_share side (e * f % p * g % p) + e * f % p * c + e * g % p * b + f * g % p * a) % p)
        (abc + e * bc + f * ac + g * ab + e * f * c + e * g * b + f * g * a + constant_share side (e * f * g))
    all =
        cong_add cong_mod
        (cong_mod ⊙ cong_add (cong_add (cong_add (constant_cong side (cong_mod ⊙ times e f g)) (times e f c)) (times e g b)) (times f g a))
        ⊙ cong_eq (omega arith)

pub returns : goal.returns
unfolding threefold_share
returns c =
    let a = c.args in
    let m = a.m in record {
      value = c.add.ensures.value
          ∙ rw (
            c.summed-by_masks.ensures.value,
            c.summed-by_pairs.ensures.value,
            c.constant-efg.ensures.value,
            c.mul.ensures.value,
            c.mul-fg.ensures.value,
            c.mul-eg.ensures.value,
            c.mul-ef.ensures.value,
          )
          (reduced (modulus a.n.bits) a.side a.e a.f a.g m.a m.b m.c m.ab m.ac m.bc m.abc);
      below = c.add.ensures.below;
    }

pub summed-by_masks-requires : goal.summed-by_masks-requires
summed-by_masks-requires c =
    let m = c.requires.a_bound in record { operands = (omega (arith, c.constant-efg.ensures.most, c.mul.ensures.below), c.mul-ef.ensures.below, m.2); f_bound = (c.mul-eg.ensures.below, m.1, c.mul-fg.ensures.below, m.0) }
