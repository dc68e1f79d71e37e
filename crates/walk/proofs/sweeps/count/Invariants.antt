-- `walk::sweeps::count` meets its contract: each turn counts one place.
use Prim.Native.Nat.{◌≤◌}
use Rattle.walk.specs.Sweeps.{RightAt, Counted}
use Rattle.walk.proofs.sweeps.count.Given as goal

abbrev pub invariant-loop-place : goal.invariant-loop-place
invariant-loop-place l =
    (l.right ≤ l.place) × Counted (RightAt l.sweep) l.place l.right
