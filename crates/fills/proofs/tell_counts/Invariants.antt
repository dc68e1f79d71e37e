-- `fills::tell_counts` meets its contract. The loop's invariant: all counts of the ranges passed agree.
use Rattle.std.proofs.Common.{◌≡◌, ◌*◌, ◌≤◌}
use Rattle.fills.proofs.tell_counts.Given as goal

abbrev pub invariant-loop-first : goal.invariant-loop-first
invariant-loop-first g l = (l.right ≡ l.all) × (l.all ≤ l.first-index * 2890)
