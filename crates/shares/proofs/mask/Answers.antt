-- `shares::mask` meets its contract: it is the field's difference.
use Rattle.shares.proofs.mask.Goals as goal

pub returns : goal.returns
returns c = record { value = c.sub.ensures.value; below = c.sub.ensures.below }
