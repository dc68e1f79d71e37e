-- `deals::write` meets its contract: the bodies, then the trailers.
use Rattle.deals.proofs.Places.{written}
use Rattle.deals.proofs.write.Goals as goal

pub returns : goal.returns
returns c =
    let a = c.args in record { box1 = written a.seed a.n.bits a.pair 1 a.number a.t1.now _ _ c.requires.0 c.bodies.ensures.box1 c.trailer.ensures; box2 = written a.seed a.n.bits a.pair 2 a.number a.t2.now _ _ c.requires.1 c.bodies.ensures.box2 c.trailer-2.ensures }
