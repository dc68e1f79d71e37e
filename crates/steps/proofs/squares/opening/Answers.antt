-- What is taken from the constant is the bit and then the mask.
use Rattle.std.proofs.Common.{◌+◌, ◌≤◌, refl, sym, ◌∙◌, arith}
use Rattle.field.specs.Width.{modulus}
use Rattle.field.proofs.Widths.{bounds}
use Rattle.field.proofs.Subtraction.{minus_minus}
use Rattle.shares.specs.Share.{constant_share}
use Rattle.tape.proofs.Sizes.{small}
use Rattle.protocol.specs.Tests.{complement}
use Rattle.steps.proofs.squares.opening.Goals.{After-bit}
use Rattle.steps.proofs.squares.opening.Goals as goal

-- the bit and the mask are at most p
most : (c : After-bit) → c.bit.result + c.args.mask ≤ modulus c.args.n.bits
most c = omega (arith, c.bit.ensures, c.requires.1)

pub bit-requires : goal.bit-requires
bit-requires c = omega (arith, small c.args.n.listed)

-- the equation, before what the sum asks: a wrong word fails here
pub returns-clause-value : goal.returns-clause-value
unfolding complement
returns-clause-value c =
    let a = c.args in
    c.sub.ensures.value
    ∙ rw c.constant.ensures.value
    (sym (minus_minus a.n.bits (constant_share a.side 1) c.bit.result a.mask a.n.listed (most (goal.at.returns-clause-value c).After-bit)) ∙ rw c.bit.ensures refl)

pub overflow_add-taken : goal.overflow_add-taken
overflow_add-taken c = omega (arith, most (goal.at.overflow_add-taken c).After-bit, bounds c.args.n.listed)

pub sub-requires : goal.sub-requires
sub-requires c =
    (omega (arith, c.constant.ensures.most, bounds c.args.n.listed), most (goal.at.sub-requires c).After-bit)
