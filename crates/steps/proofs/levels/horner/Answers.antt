-- Of Horner's step, total · d is below 2p² and g · power below p².
use Rattle.std.proofs.Common.{ℕ, ◌+◌, ◌*◌, ◌%◌, ◌<◌, ap, ◌∙◌, le_of_lt, mul-le-mul, arith}
use Rattle.field.specs.Width.{modulus}
use Rattle.field.proofs.Widths.{bounds, product_below}
use Rattle.steps.proofs.levels.horner.Goals.{After-wide_mul}
use Rattle.steps.proofs.levels.horner.Goals as goal

-- the equation, before what the sums ask: a wrong step fails here
pub returns-clause-same_value : goal.returns-clause-same_value
returns-clause-same_value c =
    let a = c.args in
    c.fold_wide.ensures.same_value ∙ ap (λ (x : ℕ). (a.total * a.d + x) % modulus a.n.bits) c.wide_mul.ensures

pub overflow_mul-total : goal.overflow_mul-total
overflow_mul-total c = omega (arith, bounds c.args.n.listed, mul-le-mul (le_of_lt c.requires.0) (le_of_lt c.requires.1))

-- the whole sum
small : (c : After-wide_mul)
    → c.args.total * c.args.d + c.wide_mul.result < 4 * (modulus c.args.n.bits * modulus c.args.n.bits)
small c =
    omega (
      arith,
      bounds c.args.n.listed,
      mul-le-mul (le_of_lt c.requires.0) (le_of_lt c.requires.1),
      product_below c.requires.2 c.requires.3,
      c.wide_mul.ensures,
    )

pub overflow_add-total : goal.overflow_add-total
overflow_add-total c = omega (arith, small (goal.at.overflow_add-total c).After-wide_mul, bounds c.args.n.listed)

pub fold_wide-requires : goal.fold_wide-requires
fold_wide-requires c = small (goal.at.fold_wide-requires c).After-wide_mul
