-- `walk::joined_starts::of_shares` meets its contract: the tapes are the plain ones joined, and the box is idle.
use Rattle.walk.proofs.joined_starts.of_shares.Goals as goal

pub returns : goal.returns
returns c = rw (c.joined-tapes.ensures.1, c.idle.ensures) at c.start.ensures
