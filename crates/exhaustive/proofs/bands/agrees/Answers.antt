-- `exhaustive::bands::agrees` meets its contract: on dealt tapes a band is taken, and its answer is right.
use Rattle.std.proofs.Common.{sym, ◌∙◌, arith}
use borrow.Author.Tests.{eq-eqb}
use Rattle.refusals.proofs.Numbers.{numbered}
use Rattle.exhaustive.proofs.Dealt.{band_right}
use Rattle.exhaustive.proofs.bands.agrees.Goals as goal

pub returns-in-Ok-clause-dealt : goal.returns-in-Ok-clause-dealt
returns-in-Ok-clause-dealt c = λ m.
    let a = c.args in
    let p = c.requires in
    let band = band_right a.n.bits a.low a.high a.a1 a.a2 a.t1.now a.t2.now m p.0 p.1 p.2 p.3 in
    eq-eqb _ _ (rw c.in-Ok.is at c.fresh_band.ensures.less ∙ band.1 ∙ sym c.inside.ensures)

pub returns-in-Err-clause-dealt : goal.returns-in-Err-clause-dealt
returns-in-Err-clause-dealt c = λ m.
    let a = c.args in
    let p = c.requires in
    let band = band_right a.n.bits a.low a.high a.a1 a.a2 a.t1.now a.t2.now m p.0 p.1 p.2 p.3 in
    absurd (omega (arith, rw c.in-Err.is at c.fresh_band.ensures.refusal, band.0, numbered c.in-Err.field-0))
