-- `limit_box::joined::Joined::hear` meets its contract. The loop's invariant: of the jobs passed the words are taken in, and what the last round answers stands in
-- its place.
use Rattle.std.proofs.Common.{◌≡◌}
use lib.Seq.{sets}
use Rattle.lists.specs.Joined.{chained}
use Rattle.rules.specs.Batches.{each_job}
use Rattle.limit_box.proofs.Hearing.{after_at, told_at}
use Rattle.limit_box.proofs.joined.Joined.hear.Given as goal

abbrev pub invariant-loop-i : goal.invariant-loop-i
invariant-loop-i l =
    let s = l.self.state.now in
    (l.work ≡ sets l.initial.work 0 (chained l.i (after_at s l.self.tapes.now l.initial.work l.round l.incoming)))
    × (l.answers ≡ each_job l.i (told_at s l.self.tapes.now l.initial.work l.round l.incoming))
