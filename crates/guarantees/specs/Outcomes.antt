-- What kind of thing an entry came to: the openings, messages and answers of jobs, and all else.
use Rattle.std.specs.Prelude.{Bool, true, false}
use Rattle.rules.specs.Answers.{fresh, started, spoke, heard, finished, dropped, refused}
use Rattle.guarantees.specs.Run.{Said, nothing, lost, replied}

pub data Kind : Type 0 where
  opening message answer plain : Kind

abbrev pub kind_of : Said → Kind
kind_of nothing = plain
kind_of lost = plain
kind_of (replied (fresh k)) = plain
kind_of (replied started) = opening
kind_of (replied (spoke k)) = message
kind_of (replied heard) = plain
kind_of (replied (finished vs)) = answer
kind_of (replied dropped) = plain
kind_of (replied (refused k)) = plain

abbrev pub is_opening : Kind → Bool
is_opening opening = true
is_opening message = false
is_opening answer = false
is_opening plain = false
