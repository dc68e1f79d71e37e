-- `exchange::rooms::blank_works` meets its contract.
use mathlib.Core.Path.{refl}
use Rattle.exchange.specs.Rooms.{blank_works}
use Rattle.exchange.proofs.rooms.blank_works.Goals as goal

pub returns : goal.returns
unfolding blank_works
returns c = (refl, refl)
