-- `walk::joined_starts::of_tapes` meets its contract: the tapes are the plain ones joined, and the box is idle.
use Rattle.walk.proofs.joined_starts.of_tapes.Goals as goal

pub returns : goal.returns
returns c = rw (c.joined.ensures.1, c.idle.ensures) at c.start.ensures
