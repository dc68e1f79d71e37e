-- The tapes so far are written, and the rest is as it was.
use Rattle.std.proofs.Common.{◌≡◌}
use Rattle.bench.proofs.Deals.{dealt_in}
use Rattle.bench.proofs.eight.deal_all.Given as goal

abbrev pub invariant-loop-i : goal.invariant-loop-i
invariant-loop-i l = (l.t1 ≡ dealt_in l.n.bits 1 l.initial.t1 l.i) × (l.t2 ≡ dealt_in l.n.bits 2 l.initial.t2 l.i)
