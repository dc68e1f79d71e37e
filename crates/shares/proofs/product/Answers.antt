-- `shares::product` meets its contract: the fourth product is box 1's e · f.
use mathlib.Core.Path.{refl, ◌∙◌}
use Rattle.shares.specs.Share.{product_share}
use Rattle.shares.proofs.Sides.{constant_times}
use Rattle.shares.proofs.product.Goals as goal

-- the equation, before what the steps ask: a wrong formula fails here
pub returns : goal.returns
unfolding product_share
returns c =
    let a = c.args in
    let r = c.summed.ensures in record { value = r.value ∙ rw (c.constant.ensures.value, constant_times a.side a.e a.f) refl; below = r.below }
