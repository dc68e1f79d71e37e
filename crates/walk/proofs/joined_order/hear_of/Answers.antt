-- `walk::joined_order::hear_of` meets its contract: the tapes are the plain ones joined.
use Rattle.walk.proofs.joined_order.hear_of.Goals as goal

pub returns : goal.returns
returns c = rw c.joined-tapes.ensures.1 at c.hear.ensures.answered
