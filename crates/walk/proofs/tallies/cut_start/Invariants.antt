-- `walk::tallies::cut_start` meets its contract: the marks below are written.
use Rattle.std.proofs.Common.{◌≡◌}
use Rattle.tally.specs.Tally.{first_marks}
use Rattle.walk.specs.Walk.{ten_fresh}
use Rattle.walk.proofs.tallies.cut_start.Given as goal

abbrev pub invariant-loop-i : goal.invariant-loop-i
invariant-loop-i l = l.tally ≡ first_marks ten_fresh l.first l.i
