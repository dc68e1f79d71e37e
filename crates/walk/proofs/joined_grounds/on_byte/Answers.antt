-- `walk::joined_grounds::on_byte` meets its contract: the tapes are the plain ones joined, the box is idle, and the tally is another in one byte.
use Rattle.walk.proofs.joined_grounds.on_byte.Goals as goal

pub returns : goal.returns
returns c = rw (c.joined-tapes.ensures.1, c.idle.ensures, c.one_byte-tally.ensures) at c.start.ensures
