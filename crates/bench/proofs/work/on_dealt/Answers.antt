-- `bench::work::on_dealt` meets its contract: on tapes dealt by the rules every turn is right.
use Rattle.tape.specs.Dealt.{Dealt}
use Rattle.deals.proofs.Dealing.{dealt_tapes}
use Rattle.bench.proofs.work.on_dealt.Goals.{After-write}
use Rattle.bench.proofs.work.on_dealt.Goals as goal

dealt : (w : After-write) → Dealt w.args.n.bits 1 0 w.write.new.t1 w.write.new.t2
dealt w =
    let n = w.args.n in
    rw (w.write.ensures.box1, w.write.ensures.box2) (dealt_tapes 2463534242 n.bits 1 0 n.listed)

pub returns-in-Jobs : goal.returns-in-Jobs
returns-in-Jobs c = c.jobs.ensures.dealt (dealt (goal.at.returns-in-Jobs c).After-write)

pub returns-in-Checks : goal.returns-in-Checks
returns-in-Checks c = c.checks.ensures.dealt (dealt (goal.at.returns-in-Checks c).After-write)
