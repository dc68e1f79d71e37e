-- `plan::put_figures` meets its contract: three lines one after another.
use Rattle.lines.proofs.Runs.{then}
use Rattle.plan.specs.Printed.{figures_text}
use Rattle.plan.proofs.put_figures.Goals as goal

pub returns-clause-puts : goal.returns-clause-puts
unfolding figures_text
returns-clause-puts c = then (then c.put_named.ensures.puts c.put_row.ensures.puts) c.put_named-2.ensures.puts
