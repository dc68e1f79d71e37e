-- `bench::eight::turn_right` meets its contract: the shares are those of the turn.
use Rattle.bench.specs.Eight.{RightTurn}
use Rattle.bench.proofs.eight.turn_right.Goals as goal

pub returns-clause-right : goal.returns-clause-right
unfolding RightTurn
returns-clause-right c = λ all. rw (← c.list-shares1.ensures, ← c.list-shares2.ensures) (c.starts.ensures.right all)
