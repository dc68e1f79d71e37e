-- A job is counted at most once, and so many zeros fit a word.
use Rattle.std.proofs.Common.{◌*◌, ◌≤◌}
use Rattle.vectors.proofs.run_width.Given as goal

abbrev pub invariant-loop-k : goal.invariant-loop-k
invariant-loop-k g l = (l.agreed ≤ l.k) × (l.zeros ≤ l.k * 231120)
