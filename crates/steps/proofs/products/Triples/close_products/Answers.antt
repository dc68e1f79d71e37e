use Rattle.std.proofs.Common.{sym, ◌∙◌, inr, zero-add, arith}
use Rattle.lists.proofs.Stores.{stored_more, stored_beside}
use Rattle.steps.proofs.products.Triples.close_products.Goals as goal

pub loop-i-preserved : goal.loop-i-preserved
loop-i-preserved c =
    stored_more c.loop-i.invariant _ _ c.loop-i-test.true (sym (zero-add c.loop-i.i))
    (c.close_product.ensures.value
    ∙ rw (c.reduce-u.ensures.value, c.reduce-v.ensures.value, stored_beside c.loop-i.invariant c.loop-i.i (inr (omega arith))))
