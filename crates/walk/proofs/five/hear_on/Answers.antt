-- `walk::five::hear_on` meets its contract: the tape is the plain one, and the words are as many as the round has.
use Rattle.walk.proofs.five.hear_on.Goals as goal

pub returns : goal.returns
returns c = rw (c.plain-tape.ensures.1, c.words.ensures.1) at c.hear.ensures.answered
