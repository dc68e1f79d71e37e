use Rattle.std.proofs.Common.{ℕ, ◌+◌, ◌-◌, ap}
use Rattle.lists.proofs.Stores.{down_more}
use Rattle.compare.proofs.filling.open_lows.Goals as goal

pub loop-j-preserved : goal.loop-j-preserved
loop-j-preserved c =
    let place = ap (λ (at : ℕ). at + (c.loop-j.j - 1)) c.square_count-at.ensures in
    down_more c.loop-j.invariant _ _ c.loop-j-test.true place c.low_word.ensures
