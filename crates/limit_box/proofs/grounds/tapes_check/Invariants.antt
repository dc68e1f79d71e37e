-- `limit_box::grounds::tapes_check` meets its contract. The loop's invariant: the tapes passed are in order.
use Rattle.std.proofs.Common.{◌≡◌, true}
use Rattle.lists.specs.Every.{every}
use Rattle.rules.specs.Grounds.{tape_ordered}
use Rattle.limit_box.proofs.grounds.tapes_check.Given as goal

abbrev pub invariant-loop-i : goal.invariant-loop-i
invariant-loop-i l = every l.i (tape_ordered l.state l.state.batch.first l.tapes) ≡ true
