-- `lines::reading::numbers_into` meets its contract. The loop's invariant: what split has left decides.
use Rattle.std.proofs.Common.{[], length, cond}
use Rattle.lines.specs.Reading.{line_of, parts_of}
use Rattle.lines.proofs.Turns.{Read}
use Rattle.lines.proofs.reading.numbers_into.Given as goal

abbrev pub invariant-loop-number : goal.invariant-loop-number
invariant-loop-number l =
    Read (line_of l.text) (length l.initial.numbers) (cond l.parts.done [] (parts_of l.parts.rest.now)) l.numbers l.number-index
