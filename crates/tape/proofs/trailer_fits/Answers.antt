-- `tape::trailer_fits` meets its contract: the words after the body are compared whole.
use Rattle.std.proofs.Common.{◌-◌, ◌∙◌, length}
use Rattle.tape.proofs.Sizes.{body_end}
use Rattle.tape.proofs.Trailers.{trailer_at_end}
use Rattle.tape.proofs.trailer_fits.Goals as goal

pub returns : goal.returns
returns c =
    let a = c.args in
    let told = rw c.trailer_of-trailer.ensures at c.eq.ensures in
    told ∙ trailer_at_end a.n.bits a.label.pair a.label.side a.label.number (length a.tape.now - 7) a.tape.now (body_end a.n.bits (length a.tape.now) c.requires) c.requires
