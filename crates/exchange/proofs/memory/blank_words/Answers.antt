-- `exchange::memory::blank_words` meets its contract.
use mathlib.Core.Path.{refl}
use Rattle.protocol.specs.Rounds.{round_words}
use Rattle.exchange.specs.Memory.{blank_words}
use Rattle.exchange.proofs.memory.blank_words.Goals as goal

pub returns : goal.returns
unfolding blank_words round_words
returns c = (refl, refl)
