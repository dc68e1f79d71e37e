use Rattle.std.proofs.Common.{refl, sym, ◌∙◌, zero-add}
use Rattle.lists.proofs.Stores.{stored_more}
use Rattle.protocol.specs.Answer.{half_opening}
use Rattle.steps.proofs.products.Triples.open_halves.Goals as goal

pub loop-k-preserved : goal.loop-k-preserved
unfolding half_opening
loop-k-preserved c =
    stored_more c.loop-k.invariant _ _ c.loop-k-test.true (sym (zero-add c.loop-k.k))
    (c.mask.ensures.value ∙ rw c.last_group-at.ensures refl)
