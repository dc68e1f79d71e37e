-- `walk::joined_starts::of_count` meets its contract: the tapes are the plain ones joined, and the box is idle.
use Rattle.walk.proofs.joined_starts.of_count.Goals as goal

pub returns : goal.returns
returns c = rw (c.joined.ensures.1, c.ten.ensures) at c.start.ensures
