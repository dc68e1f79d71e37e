-- `deals::groups::group` meets its contract: the group of its kind.
use Rattle.deals.proofs.ByKind.{product_group, last_group}
use Rattle.deals.proofs.groups.group.Goals as goal

pub returns-in-Last-clause-box1 : goal.returns-in-Last-clause-box1
returns-in-Last-clause-box1 c = (last_group _ _ _ _ _ c.in-Last.is c.threefold.ensures.box1 c.threefold.ensures.box2).0

pub returns-in-Last-clause-box2 : goal.returns-in-Last-clause-box2
returns-in-Last-clause-box2 c = (last_group _ _ _ _ _ c.in-Last.is c.threefold.ensures.box1 c.threefold.ensures.box2).1

pub returns-in-Square-clause-box1 : goal.returns-in-Square-clause-box1
returns-in-Square-clause-box1 c = (product_group _ _ _ _ _ _ c.in-Square.is c.requires.0 c.product.ensures.box1 c.product.ensures.box2).0

pub returns-in-Square-clause-box2 : goal.returns-in-Square-clause-box2
returns-in-Square-clause-box2 c = (product_group _ _ _ _ _ _ c.in-Square.is c.requires.0 c.product.ensures.box1 c.product.ensures.box2).1
