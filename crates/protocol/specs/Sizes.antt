-- What several jobs take (document 02, P8): so many times what one job takes of the tape, of each round's words and of work.
use Rattle.std.specs.Prelude.{ℕ, suc, ◌*◌, Bool, ◌&&◌, List, leb}
use Rattle.lists.specs.Tabulate.{tabulate}
use Rattle.tape.specs.Layout.{tape_length}
use Rattle.protocol.specs.Work.{work_length}
use Rattle.protocol.specs.Rounds.{last_round, round_words}

-- no more jobs than these are taken together
abbrev pub most_jobs : ℕ
most_jobs = 8

-- a count of jobs, 1 to 8
unfoldable pub count_fits : ℕ → Bool
count_fits count = leb 1 count && leb count most_jobs

abbrev pub tape_for : ℕ → ℕ → ℕ
tape_for n count = count * tape_length n

abbrev pub round_for : ℕ → ℕ → ℕ → ℕ
round_for n count round = count * round_words n round

abbrev pub work_for : ℕ → ℕ → ℕ
work_for n count = count * work_length n

-- of rounds 1 to 5
abbrev pub rounds_for : ℕ → ℕ → List ℕ
rounds_for n count = tabulate last_round (λ r. round_for n count (suc r))
