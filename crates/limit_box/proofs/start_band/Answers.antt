-- `limit_box::start_band` meets its contract: both tapes have a mark.
use Rattle.std.proofs.Common.{sym, ap, arith}
use mathlib.Core.List.{[], ◌∷◌}
use lib.ListN.{length}
use Rattle.rules.specs.declared.state.Task.TheVariants.{Band}
use Rattle.rules.proofs.Passed.{StartPassed, start_passed}
use Rattle.limit_box.proofs.start_band.Goals.{In_ok-pairs}
use Rattle.limit_box.proofs.start_band.Goals as goal

passed : (c : In_ok-pairs)
    → let a = c.args in
    StartPassed a.state.now a.first (Band a.low a.high) (a.share ∷ []) a.tapes.now a.work.now a.tally.now
passed c =
    let a = c.args in
    start_passed a.state.now a.first (Band a.low a.high) (a.share ∷ []) a.tapes.now a.work.now a.tally.now (sym c.in_ok-pairs.ensures.ground)

pub open-requires : goal.open-requires
open-requires c =
    let go = passed (goal.at.open-requires c).In_ok-pairs in
    (ap length c.in_ok-pairs.ensures.pairs, omega (arith, go.numbered 1 (omega arith)))
