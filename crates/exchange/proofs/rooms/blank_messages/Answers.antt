-- `exchange::rooms::blank_messages` meets its contract.
use mathlib.Core.Path.{refl}
use Rattle.protocol.specs.Rounds.{round_words}
use Rattle.exchange.specs.Rooms.{blank_messages}
use Rattle.exchange.proofs.rooms.blank_messages.Goals as goal

pub returns : goal.returns
unfolding blank_messages round_words
returns c = (refl, refl)
