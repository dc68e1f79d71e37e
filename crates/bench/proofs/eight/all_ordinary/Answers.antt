-- `bench::eight::all_ordinary` meets its contract: one wrong bit is enough.
use Rattle.std.proofs.Common.{sym, ◌∙◌}
use borrow.Author.Tests.{ne_eqb}
use Rattle.lists.proofs.Every.{every_fails}
use Rattle.rules.specs.Tasks.{answer_count}
use Rattle.bench.proofs.eight.all_ordinary.Goals as goal

pub returns-then-bits-i : goal.returns-then-bits-i
returns-then-bits-i c =
    sym
    (every_fails (answer_count c.args.task) _ c.loop-i.i (rw c.answer_count-i-end.ensures at c.loop-i-test.true)
    (ne_eqb _ _ (λ same. c.if-bits-i.true (same ∙ sym c.ordinary.ensures))))
