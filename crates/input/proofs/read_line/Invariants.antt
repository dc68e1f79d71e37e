-- `input::read_line` meets its contract: none of the bytes so far is a newline.
use Rattle.input.proofs.Newlines.{NoNewline}
use Rattle.input.proofs.read_line.Given as goal

abbrev pub invariant-loop-len : goal.invariant-loop-len
invariant-loop-len l = NoNewline l.len l.text
