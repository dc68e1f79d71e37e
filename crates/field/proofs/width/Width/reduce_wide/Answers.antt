-- `field::width::Width::reduce_wide` meets its contract: what two folds leave is below 2p.
use Rattle.std.proofs.Common.{◌∙◌}
use Rattle.field.proofs.width.Width.reduce_wide.Goals as goal

pub returns : goal.returns
returns c = record { value = c.reduce_once.ensures.value ∙ c.fold_wide.ensures.same_value; below = c.reduce_once.ensures.below }
