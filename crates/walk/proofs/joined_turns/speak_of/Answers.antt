-- `walk::joined_turns::speak_of` meets its contract: the tapes are the plain ones joined, and out is full of filler.
use Rattle.walk.proofs.Fillers.{front, long}
use Rattle.walk.proofs.joined_turns.speak_of.Goals as goal

pub returns : goal.returns
returns c = rw (c.joined-tapes.ensures.1, front c.args.words 66 c.requires.1, long c.args.words) at c.speak.ensures.answered
