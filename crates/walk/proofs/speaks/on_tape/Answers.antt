-- `walk::speaks::on_tape` meets its contract: speak 1 is due.
use Rattle.walk.proofs.speaks.on_tape.Goals as goal

pub returns : goal.returns
returns c = rw c.opened.ensures at c.speak.ensures.answered
