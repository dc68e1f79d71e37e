-- `limit_box::start` meets its contract: every tape that is taken has a mark, and there are two shares for each.
use Rattle.std.proofs.Common.{◌-◌, sym, arith}
use Rattle.rules.specs.declared.state.Task.TheVariants.{Compare}
use Rattle.rules.proofs.Batches.{count_most}
use Rattle.rules.proofs.Passed.{StartPassed, start_passed}
use Rattle.limit_box.proofs.start.Goals.{In_ok-start_check}
use Rattle.limit_box.proofs.start.Goals as goal

passed : (c : In_ok-start_check)
    → let a = c.args in
    StartPassed a.state.now a.first (Compare a.count) a.shares.now a.tapes.now a.work.now a.tally.now
passed c =
    let a = c.args in
    start_passed a.state.now a.first (Compare a.count) a.shares.now a.tapes.now a.work.now a.tally.now (sym c.in_ok-start_check.ensures)

pub open-requires : goal.open-requires
open-requires c =
    let go = passed (goal.at.open-requires c).In_ok-start_check in
    let some = (count_most c.args.count go.counted).0 in
    (go.asked, omega (arith, some, go.numbered (c.args.count - 1) (omega (arith, some))))
