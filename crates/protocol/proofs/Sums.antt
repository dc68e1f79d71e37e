-- Bits: what the shares of α · β open, and the sum of two bits without their carry.
use Prim.Native.Nat.{ℕ, ◌+◌, ◌*◌, ◌%◌, ◌≤◌}
use mathlib.Core.Path.{◌≡◌}
use mathlib.Core.Bool.{true}
use mathlib.Core.Logic.{◌⊎◌, inl, inr}
use native.Mathlib.Omega.{arith}
use Rattle.shares.specs.Side.{is_side, other}
use Rattle.shares.specs.Share.{constant_share}
use Rattle.shares.proofs.Sides.{each_side}
use Rattle.protocol.proofs.Matches.{bit_cases}

-- box 1's word times box 2's, whichever box is named first
pub low_product : (side u v : ℕ) → is_side side ≡ true
    → (constant_share side u + constant_share (other side) v) * (constant_share (other side) u + constant_share (other (other side)) v) ≡ u * v
unfolding constant_share other
low_product side u v =
    each_side
    (λ s. (constant_share s u + constant_share (other s) v) * (constant_share (other s) u + constant_share (other (other s)) v) ≡ u * v)
    (omega arith)
    (omega arith)
    side

pub bit_sum : (u v : ℕ) → u ≤ 1 → v ≤ 1 → (u + v) % 2 + 2 * (u * v) ≡ u + v
bit_sum u v lu lv = go (bit_cases u lu) (bit_cases v lv)
  where
    go : (u ≡ 0) ⊎ (u ≡ 1) → (v ≡ 0) ⊎ (v ≡ 1) → (u + v) % 2 + 2 * (u * v) ≡ u + v
    go (inl a) (inl b) = rw (a, b)
    go (inl a) (inr b) = rw (a, b)
    go (inr a) (inl b) = rw (a, b)
    go (inr a) (inr b) = rw (a, b)
