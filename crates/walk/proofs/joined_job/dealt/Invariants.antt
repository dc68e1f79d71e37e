-- `walk::joined_job::dealt` meets its contract: the tapes dealt so far stand at the front.
use Rattle.std.proofs.Common.{◌≡◌}
use lib.ListN.{replicate}
use lib.Seq.{sets}
use Rattle.lists.specs.Joined.{chained}
use Rattle.walk.specs.Three.{dealt_at}
use Rattle.walk.proofs.joined_job.dealt.Given as goal

abbrev pub invariant-loop-i : goal.invariant-loop-i
invariant-loop-i l =
    (l.tapes1 ≡ sets (replicate 447 0) 0 (chained l.i (dealt_at 1)))
    × (l.tapes2 ≡ sets (replicate 447 0) 0 (chained l.i (dealt_at 2)))
