-- `fills::tapes::deal` meets its contract: tapes dealt by the rules can be read.
use Rattle.tape.proofs.Dealing.{own_readable, others_readable}
use Rattle.deals.proofs.Dealing.{dealt_tapes}
use Rattle.fills.proofs.tapes.deal.Goals as goal

pub returns-clause-readable : goal.returns-clause-readable
returns-clause-readable c =
    let n = c.args.n in
    let dealt = dealt_tapes 20051 n.bits 7 3 n.listed in
    (rw c.write.ensures.box1 (own_readable dealt), rw c.write.ensures.box2 (others_readable dealt))
