-- `walk::states::band` meets its contract: at box 1 the bounds' shares are the bounds.
use Rattle.std.proofs.Common.{refl}
use Rattle.shares.specs.Share.{constant_share}
use Rattle.walk.proofs.states.band.Goals as goal

pub returns : goal.returns
unfolding constant_share
returns c = refl
