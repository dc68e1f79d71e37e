-- `walk::order::wrong_hear` meets its contract: the tape is the plain one.
use Rattle.walk.proofs.order.wrong_hear.Goals as goal

pub returns : goal.returns
returns c = rw c.plain.ensures.1 at c.hear.ensures.answered
