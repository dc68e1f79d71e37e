-- `fills::tell_range` meets its contract. The loop's invariant: the counts passed that agree are counted.
use Prim.Native.Nat.{◌-◌, ◌≤◌}
use mathlib.Core.Path.{◌≡◌}
use Rattle.lists.specs.Tabulate.{sum}
use Rattle.fills.specs.Fillings.{right_at}
use Rattle.fills.proofs.tell_range.Given as goal

abbrev pub invariant-loop-count : goal.invariant-loop-count
invariant-loop-count g l =
    (l.first ≤ l.count) × (l.right ≡ sum (l.count - l.first) (right_at l.party l.first))
