-- `walk::joined_starts::of_sides` meets its contract: the tapes are the plain ones joined.
use Rattle.walk.proofs.joined_starts.of_sides.Goals as goal

pub returns : goal.returns
returns c = rw c.joined-tapes.ensures.1 at c.start.ensures
