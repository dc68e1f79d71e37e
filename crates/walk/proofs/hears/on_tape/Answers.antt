-- `walk::hears::on_tape` meets its contract: hear 1 is due.
use Rattle.walk.proofs.hears.on_tape.Goals as goal

pub returns : goal.returns
returns c = rw c.spoken.ensures at c.hear.ensures.answered
