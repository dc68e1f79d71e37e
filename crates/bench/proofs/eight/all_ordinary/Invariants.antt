-- The bits passed are right.
use Rattle.std.proofs.Common.{◌≡◌, true, eqb, get_or}
use Rattle.lists.specs.Every.{every}
use Rattle.rules.specs.Bits.{right_bit}
use Rattle.bench.proofs.eight.all_ordinary.Given as goal

abbrev pub invariant-loop-i : goal.invariant-loop-i
invariant-loop-i l = every l.i (λ k. eqb (get_or l.bits k 0) (right_bit l.n.bits l.task l.shares1 l.shares2 k)) ≡ true
