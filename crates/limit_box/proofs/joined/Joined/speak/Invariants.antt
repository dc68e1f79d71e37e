-- `limit_box::joined::Joined::speak` meets its contract. The loop's invariant: the messages of the jobs passed stand at the front of out.
use Rattle.std.proofs.Common.{◌≡◌}
use lib.ListN.{length}
use lib.Seq.{sets}
use Rattle.lists.specs.Joined.{chained}
use Rattle.protocol.specs.Rounds.{message}
use Rattle.rules.specs.Batches.{party_of, work_part}
use Rattle.limit_box.proofs.joined.Joined.speak.Given as goal

abbrev pub invariant-loop-i : goal.invariant-loop-i
invariant-loop-i l =
    l.out ≡ sets l.initial.out 0 (chained l.i (λ k. message (party_of l.self.state.now l.self.tapes.now k) (work_part l.self.state.now.n l.work k) l.round))
