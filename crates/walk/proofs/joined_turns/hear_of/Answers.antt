-- `walk::joined_turns::hear_of` meets its contract: both tapes are in order, and work is full of filler.
use Rattle.walk.proofs.Fillers.{front, long}
use Rattle.walk.proofs.joined_turns.hear_of.Goals as goal

pub returns : goal.returns
returns c = rw (c.own.ensures.1, front c.args.room 200 c.requires.2, long c.args.room) at c.hear.ensures.answered
