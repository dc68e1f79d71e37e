-- `lines::reading::value_of` meets its contract. The loop's invariant: what is left to read decides.
use Rattle.std.proofs.Common.{◌≡◌, ◌<◌, drop}
use Rattle.lines.specs.Reading.{all_digits, value_after, value_of}
use Rattle.lines.proofs.reading.value_of.Given as goal

abbrev pub invariant-loop-b : goal.invariant-loop-b
invariant-loop-b l = record { fits : l.value < 4294967296; digits : all_digits l.part ≡ all_digits (drop l.b-index l.part); value : value_of l.part ≡ value_after l.value (drop l.b-index l.part) }
