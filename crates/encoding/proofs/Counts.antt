-- Counting by a sum of indicators: how many indices below n pass a test.
use Prim.Native.Nat.{ℕ, ◌≤◌}
use mathlib.Core.Bool.{Bool, true, false}
use native.Mathlib.Omega.{arith}
use Rattle.lists.specs.Tabulate.{sum}
use Rattle.encoding.specs.Matching.{indicator}

abbrev pub count : ℕ → (ℕ → Bool) → ℕ
count n t = sum n (λ i. indicator (t i))

pub indicator_most : (t : Bool) → indicator t ≤ 1
indicator_most true = omega arith
indicator_most false = omega arith
