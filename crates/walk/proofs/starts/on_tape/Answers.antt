-- `walk::starts::on_tape` meets its contract: the box is idle.
use Rattle.walk.proofs.starts.on_tape.Goals as goal

pub returns : goal.returns
returns c = rw c.idle.ensures at c.start_one.ensures
