-- `exhaustive::tapes::two_pairs` meets its contract: what is dealt is dealt by the rules.
use Rattle.exhaustive.proofs.Dealt.{two_dealt}
use Rattle.exhaustive.specs.Bands.{two_tapes}
use Rattle.exhaustive.proofs.tapes.two_pairs.Goals as goal

pub returns-clause-dealt : goal.returns-clause-dealt
unfolding two_tapes
returns-clause-dealt c =
    let n = c.args.n in
    rw (c.write.ensures.box1, c.write.ensures.box2, c.write-2.ensures.box1, c.write-2.ensures.box2) (two_dealt n.bits c.args.seed n.listed)
