-- `exchange::memory::blank_work` meets its contract.
use mathlib.Core.Path.{refl}
use Rattle.exchange.specs.Memory.{blank_work}
use Rattle.exchange.proofs.memory.blank_work.Goals as goal

pub returns : goal.returns
unfolding blank_work
returns c = (refl, refl)
