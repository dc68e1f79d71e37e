-- `bench::eight::turns` meets its contract: each turn is counted if it was right.
use Rattle.bench.specs.Eight.{RightTurn, AllDealt}
use Rattle.bench.proofs.Turns.{turn_counted}
use Rattle.bench.proofs.eight.turns.Goals as goal

pub loop-turn-preserved : goal.loop-turn-preserved
loop-turn-preserved c =
    let v = c.args in
    let so_far = c.loop-turn.invariant in
    rw c.from-right.ensures
    (turn_counted (RightTurn v.way v.n.bits v.t1.now v.t2.now) (AllDealt v.n.bits 0 8 v.t1.now v.t2.now) so_far.0 so_far.1 so_far.2
    c.turn_right.result c.turn_right.ensures.right c.turn_right.ensures.dealt)
