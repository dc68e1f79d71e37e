-- `limit_box::modes::batch_fits` meets its contract: one job that does not fit is enough.
use Rattle.std.proofs.Common.{sym}
use Rattle.lists.proofs.Tests.{and-false}
use Rattle.lists.proofs.Every.{every_fails}
use Rattle.rules.specs.Tasks.{count_of, task_fits}
use Rattle.limit_box.proofs.modes.batch_fits.Goals as goal

pub returns-then-not-job_fits : goal.returns-then-not-job_fits
returns-then-not-job_fits c =
    let b = c.args.batch.now in
    let less = rw c.count-i-end.ensures at c.loop-i-test.true in
    sym (and-false (task_fits c.args.n.bits b.task) (every_fails (count_of b.task) _ c.loop-i.i less (sym (c.if-not-job_fits.ensures))))
