-- `exhaustive::tapes::pair` meets its contract: the plain tapes, and those that are dealt, are by the rules both.
use Rattle.tape.proofs.Plains.{plain_dealt}
use Rattle.deals.proofs.Dealing.{dealt_tapes}
use Rattle.exhaustive.proofs.tapes.pair.Goals as goal

pub returns-in-Plain-clause-dealt : goal.returns-in-Plain-clause-dealt
returns-in-Plain-clause-dealt c =
    let n = c.args.n in
    rw (c.plain.ensures, c.plain-in-Plain.ensures) (plain_dealt n.bits 7 0 n.listed)

pub returns-in-Dealt-clause-dealt : goal.returns-in-Dealt-clause-dealt
returns-in-Dealt-clause-dealt c =
    let n = c.args.n in
    rw (c.write.ensures.box1, c.write.ensures.box2) (dealt_tapes c.args.seed n.bits 7 0 n.listed)
