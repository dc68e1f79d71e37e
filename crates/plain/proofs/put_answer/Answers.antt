-- `plain::put_answer` meets its contract: two lines one after the other.
use mathlib.Core.Path.{ap}
use Rattle.lines.proofs.Runs.{then}
use Rattle.needs.specs.Figures.{Figures}
use Rattle.plain.specs.Printed.{answer_text}
use Rattle.plain.proofs.put_answer.Goals as goal

pub returns-clause-puts : goal.returns-clause-puts
unfolding answer_text
returns-clause-puts c = rw (← ap (λ (f : Figures). f.rounds) c.one_job.ensures) (then c.put_row.ensures.puts c.put_named.ensures.puts)
