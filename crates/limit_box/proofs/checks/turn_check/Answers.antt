-- `limit_box::checks::turn_check` meets its contract: the lists of grounds, one after another; a box in a job that is due is as the rounds need it.
use Rattle.std.proofs.Common.{◌≡◌, ◌-◌, false, sym, arith}
use borrow.Author.Tests.{not-false}
use Rattle.std.proofs.lemmas.Result.{err_from_is_err_and}
use Rattle.refusals.specs.Grounds.{earliest_of}
use Rattle.refusals.proofs.Chains.{none}
use Rattle.tally.proofs.Marks.{tally_most, tapes_most}
use Rattle.rules.specs.Tasks.{count_of}
use Rattle.rules.specs.Modes.{mode_of, is_asleep, is_due}
use Rattle.rules.specs.Grounds.{job_grounds, due_grounds, turn_parts}
use Rattle.rules.proofs.Batches.{count_most}
use Rattle.rules.proofs.Ranges.{awake_range, Ranged, ranged, due_job, JobRange, job_range}
use Rattle.rules.proofs.Passed.{turn_due}
use Rattle.limit_box.proofs.Chains.{decided, past, here}
use Rattle.limit_box.proofs.HandedOn.{given}
use Rattle.limit_box.proofs.checks.turn_check.Goals.{In_ok-when}
use Rattle.limit_box.proofs.checks.turn_check.Goals as goal

module _ (c : In_ok-when) where
  job : 0 ≡ earliest_of (job_grounds (mode_of c.args.state.now))
  job = rw (← c.mode_of-mode.ensures) c.in_ok-job_check.ensures

  due : 0 ≡ earliest_of (due_grounds c.args.state.now c.args.first c.args.turn)
  due = rw (← c.mode_of-mode.ensures, ← c.is_due-due.ensures) c.in_ok-when.ensures

  awake : is_asleep (mode_of c.args.state.now) ≡ false
  awake = (none (job_grounds (mode_of c.args.state.now)) (sym job)).0

  sound : Ranged c.args.state.now
  sound = ranged c.args.state.now (awake_range c.args.state.now awake)

  range : JobRange c.args.state.now c.args.turn
  range =
      let s = c.args.state.now in
      let is_next = not-false (is_due (mode_of s) s.batch.first c.args.first c.args.turn) (none (due_grounds s c.args.first c.args.turn) (sym due)).0 in
      job_range s awake (due_job s c.args.first c.args.turn awake is_next).job

pub tapes_check-requires-clause-width : goal.tapes_check-requires-clause-width
tapes_check-requires-clause-width c = (sound c).width

pub tapes_check-requires-clause-jobs : goal.tapes_check-requires-clause-jobs
tapes_check-requires-clause-jobs c =
    let s = c.args.state.now in
    let r = range c in
    let some = (count_most (count_of s.batch.task) r.counted).0 in
    let last = r.numbers ((count_of s.batch.task) - 1) (omega (arith, some)) in
    (r.counted, omega (arith, some, last, tapes_most s.tally, tally_most s.tally (sound c).tallied))

pub returns-in_err-tapes_check-clause-ground : goal.returns-in_err-tapes_check-clause-ground
returns-in_err-tapes_check-clause-ground c =
    let a = c.args in
    let k = (goal.at.returns-in_err-tapes_check-clause-ground c).In_ok-when in
    let e = err_from_is_err_and c.from_residual-in_err-tapes_check.result c.from_residual-in_err-tapes_check.ensures.1 in
    rw (e.1, e.2)
    (decided {parts = turn_parts a.state.now a.first a.turn a.tapes.now a.work.now a.buffer.now}
    (past (job k) (past (due k) (here _ c.in_err-tapes_check.ensures))))

pub invariant_of-n : goal.invariant_of-n
invariant_of-n c = record { listed = (sound (goal.at.invariant_of-n c).In_ok-when).width }

pub returns-in_err-message_check-clause-ground : goal.returns-in_err-message_check-clause-ground
returns-in_err-message_check-clause-ground c =
    let a = c.args in
    let k = (goal.at.returns-in_err-message_check-clause-ground c).In_ok-when in
    let e = err_from_is_err_and c.from_residual-in_err-message_check.result c.from_residual-in_err-message_check.ensures.1 in
    rw (e.1, e.2)
    (decided {parts = turn_parts a.state.now a.first a.turn a.tapes.now a.work.now a.buffer.now}
    (past (job k) (past (due k) (past c.in_ok-tapes_check.ensures (here _ (rw c.count.ensures at c.in_err-message_check.ensures))))))

pub invariant_of-result : goal.invariant_of-result
invariant_of-result c =
    let a = c.args in
    let k = (goal.at.invariant_of-result c).In_ok-when in
    record { given = given (turn_due a.state.now a.first a.turn a.tapes.now (sym (job k)) (sym (due k)) (sym c.in_ok-tapes_check.ensures)) }
