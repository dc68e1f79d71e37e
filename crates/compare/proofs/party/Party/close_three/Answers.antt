use Rattle.std.proofs.Common.{ℕ, ◌+◌, ◌*◌, get_or, arith}
use Rattle.tape.specs.Layout.{section}
use Rattle.protocol.specs.Products.{closed}
use Rattle.protocol.proofs.Below.{closed_below}
use Rattle.compare.proofs.Closings.{three_below, closed_three}
use Rattle.compare.proofs.party.Party.close_three.Goals as goal

pub returns : goal.returns
returns c =
    let a = c.args in
    let b = a.self in
    let product : ℕ → ℕ = λ t. closed b.n.bits b.side (get_or a.u t 0) (get_or a.v t 0) (section b.n.bits 2 b.tape.now) (a.first + t) a.incoming.now (a.from + t * 2) in
    let value = closed_three b.n.bits b.side a.u a.v c.triples.result.words.now (section b.n.bits 2 b.tape.now) a.first a.incoming.now a.from c.close_products.new.lefts
    (omega (arith, c.well_formed)) c.requires.operands.0 c.requires.operands.1 c.triples.ensures.words (rw c.triples.ensures.width at c.close_products.ensures) in
    record { value = value; below = three_below _ product value (λ t. closed_below b.n.bits b.n.listed b.side _ _ _ _ _ _) }
