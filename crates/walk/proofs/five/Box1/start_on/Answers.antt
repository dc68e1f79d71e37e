-- `walk::five::Box1::start_on` meets its contract: the tape is the plain one.
use Rattle.walk.proofs.five.Box1.start_on.Goals as goal

pub returns : goal.returns
returns g c = rw c.plain-tape.ensures.1 at c.start_one.ensures
