-- `walk::tapes::join` meets its contract: the tapes of the sides passed stand at the front.
use Rattle.std.proofs.Common.{◌≡◌, ◌+◌}
use lib.ListN.{get_or}
use lib.Seq.{sets}
use Rattle.lists.specs.Joined.{chained}
use Rattle.walk.specs.Walk.{box_tape}
use Rattle.walk.proofs.tapes.join.Given as goal

abbrev pub invariant-loop-i : goal.invariant-loop-i
invariant-loop-i l = l.tapes ≡ sets l.initial.tapes 0 (chained l.i (λ k. box_tape (get_or l.sides k 0) (l.first + k)))
