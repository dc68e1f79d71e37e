-- The sections by the numbers with which the layout counts them.
use Rattle.std.specs.Prelude.{ℕ}
use Rattle.tape.specs.declared.Section.{Section}
use Rattle.tape.specs.declared.Section.TheVariants.{Squares, Powers, Triples}

abbrev pub place : Section → ℕ
place Squares = 0
place Powers = 1
place Triples = 2
