-- `board::respell` meets its contract.
use Rattle.board.proofs.Turns.{Respelled}
use Rattle.board.proofs.respell.Given as goal

abbrev pub invariant-loop-word : goal.invariant-loop-word
invariant-loop-word l = Respelled l.fn.n.bits l.initial.words l.words l.zeros l.word-index
