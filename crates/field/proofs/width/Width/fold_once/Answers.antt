-- `field::width::Width::fold_once` meets its contract: one fold brings a sum of four products below 5p.
use Rattle.std.proofs.Common.{arith}
use Rattle.field.proofs.Widths.{bounds}
use Rattle.field.proofs.Remainders.{fold_same, once}
use Rattle.field.proofs.width.Width.fold_once.Goals as goal

pub returns : goal.returns
returns c =
    let n = c.args.self.bits in
    let x = c.args.x in
    let b = bounds {n = n} c.args.self.listed in
    let e = c.folded.ensures in
    record { same_value = search (e, fold_same n b x); below = omega (arith, e, once n b x c.requires) }
