-- `exchange::has_room` meets its contract.
use borrow.Author.Tests.{le-leb, lt-leb}
use Rattle.exchange.proofs.has_room.Goals as goal

pub returns-then-words-o1 : goal.returns-then-words-o1
returns-then-words-o1 c = rw (← c.count.ensures, ← c.words_for-words.ensures, le-leb _ _ c.if-words-o1.true)

pub returns-else-words-o1 : goal.returns-else-words-o1
returns-else-words-o1 c = rw (← c.count.ensures, ← c.words_for-words.ensures, lt-leb _ _ c.if-words-o1.false)
