-- `field::width::Width::fold_wide` meets its contract: a second fold brings what is below 5p below p + 5.
use Rattle.std.proofs.Common.{◌∙◌, arith}
use Rattle.field.proofs.Widths.{bounds}
use Rattle.field.proofs.Remainders.{fold_same, twice}
use Rattle.field.proofs.width.Width.fold_wide.Goals as goal

pub returns : goal.returns
returns c =
    let first = c.fold_once in
    let n = c.args.self.bits in
    let b = bounds {n = n} c.args.self.listed in
    rw c.folded.ensures record { same_value = fold_same n b first.result ∙ first.ensures.same_value; below = omega (arith, twice n b first.result first.ensures.below, b) }
