-- `limit_box::wake` meets its contract: a tally that is taken is short enough to be counted.
use mathlib.Core.Path.{◌≡◌, sym}
use mathlib.Core.Bool.{true}
use native.Mathlib.Omega.{arith}
use lib.ListN.{length}
use Rattle.tally.specs.Tally.{tally_fits}
use Rattle.tally.proofs.Marks.{tally_most}
use Rattle.rules.proofs.Passed.{wake_tally}
use Rattle.limit_box.proofs.wake.Goals.{In_ok-wake_check}
use Rattle.limit_box.proofs.wake.Goals as goal

fits : (c : In_ok-wake_check) → tally_fits (length c.args.tally.now) ≡ true
fits c =
    let a = c.args in
    wake_tally a.state.now a.n a.side a.tally.now (sym c.in_ok-wake_check.ensures)

pub fresh_count-requires : goal.fresh_count-requires
fresh_count-requires c = fits c

pub overflow_cast-state : goal.overflow_cast-state
overflow_cast-state c =
    let a = c.args in
    omega (arith, tally_most (length a.tally.now) (fits (goal.at.overflow_cast-state c).In_ok-wake_check))
