-- Words from the line.
use Prim.Native.Nat.{ℕ, ◌≤◌}
use mathlib.Core.List.{List}
use native.Mathlib.Omega.{arith}
use Rattle.protocol.specs.Words.{FromLine}

-- enough words are enough for less
pub fewer : {n more : ℕ} {words : List ℕ} → FromLine n more words → (count : ℕ) → count ≤ more → FromLine n count words
fewer w count l = record { most = w.most; long = omega arith }
