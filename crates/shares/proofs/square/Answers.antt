-- `shares::square` meets its contract: the sum of the three products is below 4p².
use mathlib.Core.Path.{refl, ap}
use Prim.Native.Nat.{ℕ, ◌+◌, ◌*◌, ◌%◌, ◌<◌}
use native.Mathlib.Omega.{arith}
use Rattle.field.specs.Width.{modulus}
use Rattle.field.proofs.Widths.{bounds, product_below}
use Rattle.shares.specs.Share.{square_share}
use Rattle.shares.proofs.Sides.{constant_times}
use Rattle.shares.proofs.square.Goals.{After-wide_mul-2}
use Rattle.shares.proofs.square.Goals as goal

pub overflow_mul-own : goal.overflow_mul-own
overflow_mul-own c =
    omega (arith, bounds c.args.n.listed, product_below c.requires.0 c.requires.1)

pub overflow_add-own : goal.overflow_add-own
overflow_add-own c =
    omega (arith, bounds c.args.n.listed, product_below c.requires.0 c.requires.1)

-- the whole sum
total : (c : After-wide_mul-2)
    → c.args.q + 2 * c.wide_mul.result + c.wide_mul-2.result < 4 * (modulus c.args.n.bits * modulus c.args.n.bits)
total c =
    let k : c.constant.result < modulus c.args.n.bits = omega arith in
    omega (arith, c.wide_mul.ensures, c.wide_mul-2.ensures, product_below c.requires.0 c.requires.1, product_below c.requires.0 k)

-- the equation, before what the sum asks: a wrong formula fails here
pub returns : goal.returns
unfolding square_share
returns c =
    let a = c.args in record {
      same_value = ap (λ (x : ℕ). x % modulus a.n.bits)
          (rw (c.wide_mul.ensures, c.wide_mul-2.ensures, c.constant.ensures.value, constant_times a.side a.e a.e) refl);
      below = total (goal.at.returns c).After-wide_mul-2;
    }

pub overflow_add-result : goal.overflow_add-result
overflow_add-result c = omega (arith, bounds c.args.n.listed, total (goal.at.overflow_add-result c).After-wide_mul-2)
