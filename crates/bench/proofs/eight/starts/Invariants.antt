-- Those done so far were right, and have marked their numbers.
use Rattle.bench.proofs.Starts.{SoFar}
use Rattle.bench.proofs.eight.starts.Given as goal

abbrev pub invariant-loop-i : goal.invariant-loop-i
invariant-loop-i l = SoFar l.n.bits l.fn.way l.shares1 l.shares2 l.t1 l.t2 l.i l.right l.k1 l.k2
