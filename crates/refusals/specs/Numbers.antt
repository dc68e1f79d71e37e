-- The number of each refusal: document 01's, and those that requests of document 02 add.
use Rattle.std.specs.Prelude.{ℕ}
use Rattle.refusals.specs.declared.Refusal.{Refusal}
use Rattle.refusals.specs.declared.Refusal.TheVariants.{Asleep, Width, Side, Tally, Busy, NoJob, Number, Spent, Share, Tape, Turn, Room, Word, Seed, Late, Count, Bounds}

abbrev pub number_of : Refusal → ℕ
number_of Asleep = 1
number_of Width = 2
number_of Side = 3
number_of Tally = 4
number_of Busy = 5
number_of NoJob = 6
number_of Number = 7
number_of Spent = 8
number_of Share = 9
number_of Tape = 10
number_of Turn = 11
number_of Room = 12
number_of Word = 13
number_of Seed = 14
number_of Late = 15
number_of Count = 16
number_of Bounds = 17
