-- `plain::put_job` meets its contract: what is put is the text of the first refusal.
use Rattle.std.proofs.Common.{◌≡◌, rules}
use Rattle.plain.proofs.Texts.{turned_down}
use Rattle.plain.proofs.put_job.Goals as goal

pub returns-in-Err-clause-puts : goal.returns-in-Err-clause-puts
returns-in-Err-clause-puts c =
    let read : c.in-Some.width.bits ≡ c.args.n = search rules in
    rw (← read, turned_down _ _ _ _ _ _ c.less.ensures.0 _ c.in-Err.is) (rw c.from-in-Err.ensures at c.put_refused-in-Err.ensures.puts)
