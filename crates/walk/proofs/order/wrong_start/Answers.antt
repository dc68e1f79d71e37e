-- `walk::order::wrong_start` meets its contract: the tape is the plain one, and tapes 0 and 2 are spent.
use Rattle.walk.proofs.order.wrong_start.Goals as goal

pub returns : goal.returns
returns c = rw (c.plain-tape.ensures.1, c.spent.ensures) at c.start_one.ensures
