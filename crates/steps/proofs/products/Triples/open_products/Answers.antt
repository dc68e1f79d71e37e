use Rattle.std.proofs.Common.{◌∙◌, arith, rules}
use Rattle.protocol.proofs.Openings.{pair_more}
use Rattle.steps.proofs.products.Triples.open_products.Invariants.{left, right}
use Rattle.steps.proofs.products.Triples.open_products.Goals as goal

pub loop-i-preserved : goal.loop-i-preserved
loop-i-preserved c =
    let a = c.args in
    let n = a.self.n.bits in (
      omega arith,
      search rules,
      c.open_product.ensures
          ∙ rw (c.reduce-v.ensures.value, c.reduce-u.ensures.value, c.loop-i.invariant.2)
          (pair_more (left n a.lefts.now a.self.words.now a.first) (right n a.rights.now a.stride a.self.words.now a.first)
          a.out.now a.at c.loop-i.i),
    )
