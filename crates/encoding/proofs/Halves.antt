-- Halving: bit and code at level i + 1 of a number are those at level i of its half.
use Prim.Native.Nat.{ℕ, suc, ◌/◌, ◌^◌, ◌<◌}
use mathlib.Core.Path.{◌≡◌, sym, ap, ◌∙◌}
use native.Mathlib.Nat.{two-pow-succ}
use native.Mathlib.Omega.{arith}
use lib.Pow.{shr-shr}

pub shifted : (v i : ℕ) → v / 2 ^ suc i ≡ v / 2 / 2 ^ i
shifted v i = ap (λ (k : ℕ). v / 2 ^ k) (omega arith) ∙ sym (shr-shr v 1 i)

pub half_below : {v : ℕ} (k : ℕ) → v < 2 ^ suc k → v / 2 < 2 ^ k
half_below k h = omega (arith, two-pow-succ k)
