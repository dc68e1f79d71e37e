-- `field::width::Width::folded` meets its contract: the mask keeps the bits below n, the shift those above.
use Rattle.std.proofs.Common.{ℕ, ◌+◌, ◌/◌, ◌^◌, ◌<◌, ◌≤◌, ap, lt_of_lt_of_le, arith, pow_mono, shr_lt}
use lib.Bits.{and_mask, and_le_r}
use Rattle.field.specs.Width.{modulus}
use Rattle.field.proofs.Widths.{Bounds, bounds}
use Rattle.field.proofs.width.Width.folded.Goals as goal

pub overflow_shr-result : goal.overflow_shr-result
overflow_shr-result c = omega (arith, bounds c.args.self.listed)

-- what is above bit n has at most 61 bits
high : (n x : ℕ) → Bounds n → x < 2 ^ 64 → x / 2 ^ n < 2 ^ 61
high n x b l =
    let wide : 64 ≤ 61 + n = omega arith in
    shr_lt 61 n (lt_of_lt_of_le l (pow_mono wide))

-- the equation, before what the sum asks: a wrong fold fails here
pub returns : goal.returns
unfolding modulus
returns c =
    let n = c.args.self.bits in
    let x = c.args.x in
    rw c.modulus-p.ensures (ap (λ (y : ℕ). y + x / 2 ^ n) (and_mask x n))

pub overflow_add-result : goal.overflow_add-result
overflow_add-result c =
    let n = c.args.self.bits in
    let x = c.args.x in
    let b = bounds {n = n} c.args.self.listed in
    omega (arith, and_le_r x c.modulus-p.result, high n x b c.ranges.x.fits)
