-- `walk::hears::of_words` meets its contract: the tape is the plain one, and hear 1 is due.
use Rattle.walk.proofs.hears.of_words.Goals as goal

pub returns : goal.returns
returns c = rw (c.plain-tape.ensures.1, c.spoken.ensures) at c.hear.ensures.answered
