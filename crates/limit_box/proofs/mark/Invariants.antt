-- `limit_box::mark` meets its contract. The loop's invariant: the marks of the jobs passed are written.
use Rattle.std.proofs.Common.{◌≡◌}
use Rattle.tally.specs.Tally.{first_marks}
use Rattle.limit_box.proofs.mark.Given as goal

abbrev pub invariant-loop-i : goal.invariant-loop-i
invariant-loop-i l = l.tally ≡ first_marks l.initial.tally l.first l.i
