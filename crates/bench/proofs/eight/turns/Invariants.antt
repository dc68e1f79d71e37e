-- How many of the turns so far were right; where all were, each was, and on dealt tapes all were.
use Rattle.std.proofs.Common.{◌≡◌, ◌<◌, ◌≤◌, ℕ}
use Rattle.bench.specs.Eight.{RightTurn, AllDealt}
use Rattle.bench.proofs.eight.turns.Given as goal

abbrev pub invariant-loop-turn : goal.invariant-loop-turn
invariant-loop-turn l =
    (l.right ≤ l.turn)
    × (l.right ≡ l.turn → (t : ℕ) → t < l.turn → RightTurn l.way l.n.bits l.t1 l.t2 t)
    × (AllDealt l.n.bits 0 8 l.t1 l.t2 → l.right ≡ l.turn)
