-- `steps::squares::Squares::close` meets its contract. The loop's invariant: the counts of the groups passed stand at the front.
use Rattle.std.proofs.Common.{get_or}
use Rattle.lists.proofs.Stores.{Stored}
use Rattle.tape.specs.Layout.{group_count}
use Rattle.protocol.specs.Squares.{match_count}
use Rattle.steps.proofs.squares.Squares.close.Given as goal

abbrev pub invariant-loop-g : goal.invariant-loop-g
invariant-loop-g l =
    Stored l.initial.work 0 (group_count l.self.n.bits) (match_count l.self.n.bits l.side (λ t. get_or l.tests.doubled t 0) l.self.words.now l.incoming) l.work l.g
