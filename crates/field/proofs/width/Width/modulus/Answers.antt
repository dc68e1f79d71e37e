-- `field::width::Width::modulus` meets its contract: 2 ^ n fits a word, so the shift loses nothing.
use Rattle.std.proofs.Common.{◌≡◌, ℕ, ◌-◌, ◌*◌, ◌%◌, ◌^◌, ◌<◌, ap, ◌∙◌, mod-eq_of_lt, one-mul, arith}
use lib.Pow.{pow-lt}
use Rattle.field.specs.Width.{modulus}
use Rattle.field.proofs.Widths.{bounds, Bounds}
use Rattle.field.proofs.width.Width.modulus.Goals as goal

-- what the shift gives
shifted : (n : ℕ) → Bounds n → (1 * 2 ^ n) % 2 ^ 32 ≡ 2 ^ n
shifted n b =
    let few : n < 32 = omega arith in
    let small : 2 ^ n < 2 ^ 32 = pow-lt few in
    ap (λ (x : ℕ). x % 2 ^ 32) (one-mul (2 ^ n)) ∙ mod-eq_of_lt small

pub overflow_shl-result : goal.overflow_shl-result
overflow_shl-result c = omega (arith, bounds c.args.self.listed)

pub overflow_sub-result : goal.overflow_sub-result
overflow_sub-result c =
    let b = bounds c.args.self.listed in
    rw (shifted c.args.self.bits b) (omega arith)

pub returns : goal.returns
unfolding modulus
returns c = ap (λ (x : ℕ). x - 1) (shifted c.args.self.bits (bounds c.args.self.listed))
