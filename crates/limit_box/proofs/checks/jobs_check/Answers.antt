-- `limit_box::checks::jobs_check` meets its contract: the first job that has a ground decides, and the room where none has.
use Rattle.std.proofs.Common.{◌≡◌, ℕ, List, sym, ap, ◌∙◌, arith}
use native.Mathlib.Numerals.{add-one}
use Rattle.std.proofs.lemmas.Result.{err_from_is_err_and}
use Rattle.lists.specs.Joined.{chained}
use Rattle.refusals.specs.Grounds.{Ground, earliest_of, joined}
use Rattle.refusals.proofs.Numbers.{numbered}
use Rattle.rules.specs.Grounds.{one_parts, job_parts}
use Rattle.rules.proofs.Chained.{chained_none, chained_next, chained_some}
use Rattle.limit_box.proofs.Chains.{decided, past, here, last}
use Rattle.limit_box.proofs.Numbers.{first_passed}
use Rattle.limit_box.proofs.checks.jobs_check.Goals.{In-loop-i}
use Rattle.limit_box.proofs.checks.jobs_check.Goals as goal

-- one job's grounds
abbrev grounds_at : In-loop-i → ℕ → List Ground
grounds_at c i = joined (one_parts c.args.state.now c.args.first c.args.count c.args.pairs.now c.args.tapes.now c.args.tally.now i)

pub one_check-requires-clause-later : goal.one_check-requires-clause-later
one_check-requires-clause-later c =
    λ later.
    let a = c.args in
    first_passed a.state.now a.first a.count a.pairs.now a.tapes.now a.tally.now (chained_none c.loop-i.i (grounds_at (goal.at.one_check-requires-clause-later c).In-loop-i) c.loop-i.invariant 0 later)

pub returns-in_err-one_check : goal.returns-in_err-one_check
returns-in_err-one_check c =
    let k = (goal.at.returns-in_err-one_check c).In-loop-i in
    let e = err_from_is_err_and c.from_residual.result c.from_residual.ensures.1 in
    let next = chained_next c.loop-i.i (grounds_at k) c.loop-i.invariant ∙ sym c.in_err-one_check.ensures in
    let a = c.args in
    rw (e.1, e.2)
    (decided {parts = job_parts a.state.now a.first a.count a.pairs.now a.tapes.now a.work.now a.tally.now}
    (here _ (sym (chained_some _ a.count (grounds_at k) _ c.loop-i-test.true next (numbered _)))))

pub loop-i-preserved : goal.loop-i-preserved
loop-i-preserved c =
    let k = (goal.at.loop-i-preserved c).In-loop-i in
    ap (λ (m : ℕ). earliest_of (chained m (grounds_at k))) (add-one c.loop-i.i)
    ∙ chained_next c.loop-i.i (grounds_at k) c.loop-i.invariant ∙ sym c.in_ok-one_check.ensures

pub returns : goal.returns
returns c =
    let a = c.args in
    let all : c.loop-i.i ≡ a.count = omega arith in
    decided {parts = job_parts a.state.now a.first a.count a.pairs.now a.tapes.now a.work.now a.tally.now}
    (past (rw all at (sym c.loop-i.invariant)) (last c.room_check.ensures))
