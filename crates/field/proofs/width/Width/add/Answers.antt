-- `field::width::Width::add` meets its contract: the sum of two words below p is below 2p.
use Rattle.field.proofs.width.Width.add.Goals as goal

pub returns : goal.returns
returns c = record { value = c.reduce_once.ensures.value; below = c.reduce_once.ensures.below }
