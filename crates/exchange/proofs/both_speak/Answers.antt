-- `exchange::both_speak` meets its contract.
use Rattle.exchange.proofs.Delivery.{spoken}
use Rattle.exchange.proofs.both_speak.Goals as goal

pub returns : goal.returns
returns c =
    let v = c.args in record {
      box1 = spoken v.s1.now v.first v.round v.t1.now v.w1.now c.requires.box1.0 v.o1.now _ _ c.speak.new.state c.requires.box1.1 c.speak.ensures;
      box2 = spoken v.s2.now v.first v.round v.t2.now v.w2.now c.requires.box2.0 v.o2.now _ _ c.speak-2.new.state c.requires.box2.1 c.speak-2.ensures;
    }
