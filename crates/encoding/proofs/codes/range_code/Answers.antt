-- `encoding::codes::range_code` meets its contract: a shift makes no number larger, so the code is at most p, which is the filler.
use Prim.Native.Nat.{ℕ, zero, suc, ◌+◌, ◌-◌, ◌*◌, ◌/◌, ◌^◌, ◌<◌, ◌≤◌}
use mathlib.Core.Path.{◌≡◌}
use mathlib.Core.Bool.{cond}
use native.Mathlib.Nat.{mod-lt}
use native.Mathlib.Omega.{arith}
use lib.Dec.{eqb}
use lib.Pow.{shr_le}
use Rattle.field.specs.Width.{modulus}
use Rattle.field.proofs.Widths.{bounds}
use Rattle.encoding.specs.Codes.{bit_of, range_code}
use Rattle.encoding.proofs.codes.range_code.Goals.{After-modulus}
use Rattle.encoding.proofs.codes.range_code.Goals as goal

-- a choice by a bit, as a product
chosen : (b code p : ℕ) → b < 2 → code ≤ p → code + b * (p - code) ≡ cond (eqb b 0) code p
chosen zero code p few most = omega arith
chosen (suc zero) code p few most = omega arith
chosen (suc (suc b)) code p few most = absurd (omega (arith, few))

bit_below : (v k : ℕ) → bit_of v k < 2
bit_below v k = mod-lt (v / 2 ^ k) (omega arith)

product_below : (b d p : ℕ) → b < 2 → d ≤ p → b * d ≤ p
product_below zero d p few most = omega arith
product_below (suc zero) d p few most = omega arith
product_below (suc (suc b)) d p few most = absurd (omega (arith, few))

pub overflow_shr-code : goal.overflow_shr-code
overflow_shr-code c = omega (arith, bounds c.args.n.listed)

pub overflow_add-code : goal.overflow_add-code
overflow_add-code c = omega (arith, bounds c.args.n.listed, shr_le c.args.x c.args.level)

pub bit-requires : goal.bit-requires
bit-requires c = omega (arith, bounds c.args.n.listed)

-- the equation, before what the steps ask: a wrong choice fails here
pub returns : goal.returns
unfolding range_code modulus
returns c =
    let x = c.args.x in
    let level = c.args.level in
    rw (c.bit.ensures, c.modulus.ensures)
    (chosen (bit_of x level) (x / 2 ^ level + 1) (modulus c.args.n.bits) (bit_below x level) (omega (arith, shr_le x level, c.requires.0)))

pub overflow_sub-result : goal.overflow_sub-result
overflow_sub-result c =
    omega (arith, shr_le c.args.x c.args.level, c.requires.0, c.modulus.ensures)

-- what is added is at most p
extra : (c : After-modulus)
    → c.bit.result * (c.modulus.result - (c.args.x / 2 ^ c.args.level + 1)) ≤ modulus c.args.n.bits
extra c =
    let x = c.args.x in
    let level = c.args.level in
    let p = modulus c.args.n.bits in
    rw (c.bit.ensures, c.modulus.ensures) (product_below (bit_of x level) (p - (x / 2 ^ level + 1)) p (bit_below x level) (omega arith))

pub overflow_mul-result : goal.overflow_mul-result
overflow_mul-result c = omega (arith, extra (goal.at.overflow_mul-result c).After-modulus, bounds c.args.n.listed)

pub overflow_add-result : goal.overflow_add-result
overflow_add-result c =
    omega (arith, extra (goal.at.overflow_add-result c).After-modulus, bounds c.args.n.listed, shr_le c.args.x c.args.level, c.requires.0)
