-- The shares so far stand at the front.
use Rattle.std.proofs.Common.{◌≡◌}
use Rattle.bench.proofs.Lists.{stored}
use Rattle.bench.proofs.eight.list.Given as goal

abbrev pub invariant-loop-k : goal.invariant-loop-k
invariant-loop-k l = l.list ≡ stored l.from l.step l.k
