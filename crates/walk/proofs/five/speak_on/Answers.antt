-- `walk::five::speak_on` meets its contract: the tape is the plain one.
use Rattle.walk.proofs.five.speak_on.Goals as goal

pub returns : goal.returns
returns c = rw c.plain-tape.ensures.1 at c.speak.ensures.answered
