-- `shares::summed` meets its contract: the sum is below 4p², so one reduction serves.
use mathlib.Core.Path.{refl, ap, ◌∙◌}
use Prim.Native.Nat.{ℕ, ◌+◌, ◌*◌, ◌%◌, ◌<◌}
use native.Mathlib.Omega.{arith}
use Rattle.field.specs.Width.{modulus}
use Rattle.field.proofs.Widths.{bounds, product_below}
use Rattle.shares.proofs.summed.Goals.{After-wide_mul-3}
use Rattle.shares.proofs.summed.Goals as goal

-- the equation, before what the sums ask: a wrong formula fails here
pub returns : goal.returns
returns c =
    let a = c.args in
    let r = c.reduce_wide.ensures in record {
      value = r.value
          ∙ ap (λ (x : ℕ). x % modulus a.n.bits)
          (rw (
            c.wide_mul.ensures,
            c.wide_mul-2.ensures,
            c.wide_mul-3.ensures,
          ) refl);
      below = r.below;
    }

pub overflow_add-own : goal.overflow_add-own
overflow_add-own c =
    omega (arith, bounds c.args.n.listed, product_below c.requires.operands.1 c.requires.operands.2)

pub overflow_add-own-2 : goal.overflow_add-own-2
overflow_add-own-2 c =
    omega (arith, bounds c.args.n.listed, product_below c.requires.operands.1 c.requires.operands.2, product_below c.requires.f_bound.0 c.requires.f_bound.1)

-- the whole sum, before it is reduced
total : (c : After-wide_mul-3)
    → c.args.c + c.wide_mul.result + c.wide_mul-2.result + c.wide_mul-3.result
    < 4 * (modulus c.args.n.bits * modulus c.args.n.bits)
total c =
    omega (
      arith,
      c.wide_mul.ensures,
      c.wide_mul-2.ensures,
      c.wide_mul-3.ensures,
      product_below c.requires.operands.1 c.requires.operands.2,
      product_below c.requires.f_bound.0 c.requires.f_bound.1,
      product_below c.requires.f_bound.2 c.requires.f_bound.3,
    )

pub overflow_add-own-3 : goal.overflow_add-own-3
overflow_add-own-3 c = omega (arith, bounds c.args.n.listed, total (goal.at.overflow_add-own-3 c).After-wide_mul-3)

pub reduce_wide-requires : goal.reduce_wide-requires
reduce_wide-requires c = total (goal.at.reduce_wide-requires c).After-wide_mul-3
