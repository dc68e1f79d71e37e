-- `walk::order::wrong_speak` meets its contract: the tape is the plain one.
use Rattle.walk.proofs.order.wrong_speak.Goals as goal

pub returns : goal.returns
returns c = rw c.plain.ensures.1 at c.speak.ensures.answered
