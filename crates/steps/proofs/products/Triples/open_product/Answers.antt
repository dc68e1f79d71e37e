use Rattle.std.proofs.Common.{refl}
use Rattle.steps.proofs.products.Triples.open_product.Goals as goal

-- the equation, before what the places ask: a wrong word fails here
pub returns : goal.returns
returns c = rw (c.mask.ensures.value, c.mask-2.ensures.value) refl
