-- `exchange::memory::is_right` meets its contract: on dealt tapes a job is taken, and its answer is right.
use Rattle.std.proofs.Common.{sym, ◌∙◌, arith}
use borrow.Author.Tests.{eq-eqb}
use Rattle.refusals.proofs.Numbers.{numbered}
use Rattle.exchange.proofs.Fresh.{fresh_right}
use Rattle.exchange.proofs.memory.is_right.Goals as goal

pub returns-in-Ok-clause-dealt : goal.returns-in-Ok-clause-dealt
returns-in-Ok-clause-dealt c = λ m.
    let a = c.args in
    let p = c.requires in
    let job = fresh_right a.n.bits a.pair a.box1 a.box2 a.t1.now a.t2.now m p.0 p.1 p.2 p.3 in
    eq-eqb _ _ (rw c.in-Ok.is at c.fresh_job.ensures.less ∙ job.1 ∙ sym c.compared.ensures)

pub returns-in-Err-clause-dealt : goal.returns-in-Err-clause-dealt
returns-in-Err-clause-dealt c = λ m.
    let a = c.args in
    let p = c.requires in
    let job = fresh_right a.n.bits a.pair a.box1 a.box2 a.t1.now a.t2.now m p.0 p.1 p.2 p.3 in
    absurd (omega (arith, rw c.in-Err.is at c.fresh_job.ensures.refusal, job.0, numbered c.in-Err.field-0))
