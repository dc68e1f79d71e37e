use Rattle.std.proofs.Common.{◌-◌, sym, zero-add}
use Rattle.lists.proofs.Stores.{down_more}
use Rattle.steps.proofs.squares.open_bits.Goals as goal

pub loop-k-preserved : goal.loop-k-preserved
loop-k-preserved c =
    down_more c.loop-k.invariant _ _ c.loop-k-test.true (sym (zero-add (c.loop-k.k - 1))) c.opening.ensures.value
