-- `walk::five::Box1::band_on` meets its contract: the tapes are the plain ones joined.
use Rattle.walk.proofs.five.Box1.band_on.Goals as goal

pub returns : goal.returns
returns g c = rw c.joined-tapes.ensures.1 at c.start.ensures
