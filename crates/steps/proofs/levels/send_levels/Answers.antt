use Rattle.std.proofs.Common.{sym, zero-add, arith}
use Rattle.lists.proofs.Stores.{stored_more}
use Rattle.protocol.specs.Work.{held}
use Rattle.steps.proofs.levels.send_levels.Goals as goal

pub loop-g-preserved : goal.loop-g-preserved
unfolding held
loop-g-preserved c =
    stored_more c.loop-g.invariant _ _ (omega (arith, c.group_count-g-end.ensures, c.loop-g-test.true)) (sym (zero-add c.loop-g.g)) c.reduce.ensures.value
