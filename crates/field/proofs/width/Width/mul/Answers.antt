-- `field::width::Width::mul` meets its contract: the product of two words below p is below p².
use Rattle.std.proofs.Common.{ℕ, ◌%◌, ap, ◌∙◌, arith}
use Rattle.field.specs.Width.{modulus}
use Rattle.field.proofs.Widths.{product_below}
use Rattle.field.proofs.width.Width.mul.Goals as goal

pub reduce_wide-requires : goal.reduce_wide-requires
reduce_wide-requires c =
    omega (arith, product_below c.requires.0 c.requires.1, c.wide_mul.ensures)

pub returns : goal.returns
returns c =
    let r = c.reduce_wide.ensures in
    record { value = r.value ∙ ap (λ (x : ℕ). x % modulus c.args.self.bits) c.wide_mul.ensures; below = r.below }
