-- `lines::writing::Page::put_row` meets its contract: three texts one after another.
use Rattle.lines.proofs.Runs.{then}
use Rattle.lines.proofs.writing.Page.put_row.Goals as goal

pub returns-clause-puts : goal.returns-clause-puts
returns-clause-puts c = then (then c.put.ensures c.put_spaced.ensures.puts) c.put-2.ensures
