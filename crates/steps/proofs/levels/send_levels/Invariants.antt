-- `steps::levels::send_levels` meets its contract. The loop's invariant: the words of the groups passed stand in their places.
use Rattle.lists.proofs.Stores.{Stored}
use Rattle.tape.specs.Layout.{group_count}
use Rattle.protocol.specs.Work.{held}
use Rattle.steps.proofs.levels.send_levels.Given as goal

abbrev pub invariant-loop-g : goal.invariant-loop-g
invariant-loop-g l = Stored l.initial.out 0 (group_count l.n.bits) (held l.n.bits l.work) l.out l.g
