-- `deals::groups::power_of_two` meets its contract: 2^k is at most half of 2^n, so it is below p and the shift loses nothing.
use Prim.Native.Nat.{ℕ, suc, ◌*◌, ◌%◌, ◌^◌, ◌<◌, ◌≤◌}
use mathlib.Core.Path.{◌≡◌, ap, ◌∙◌}
use mathlib.Core.Bool.{true}
use native.Mathlib.Nat.{one-mul, mod-eq_of_lt, pow-suc}
use native.Mathlib.Omega.{arith}
use lib.Pow.{pow_mono}
use Rattle.field.specs.Width.{listed, modulus}
use Rattle.field.proofs.Widths.{bounds}
use Rattle.deals.proofs.groups.power_of_two.Goals as goal

power_below : (n k : ℕ) → listed n ≡ true → k < n → 2 ^ k < modulus n
power_below n k width l =
    let b = bounds width in
    let twice : 2 ^ suc k ≤ 2 ^ n = pow_mono l in
    let four : 2 ^ 2 ≤ 2 ^ n = pow_mono {i = 2} {j = n} (omega arith) in
    omega (arith, twice, four, pow-suc 2 k, b.power)

pub overflow_shl-result : goal.overflow_shl-result
overflow_shl-result c = omega (arith, bounds c.args.n.listed, c.requires)

pub returns : goal.returns
returns c =
    let k = c.args.k in
    let below = power_below c.args.n.bits k c.args.n.listed c.requires in
    let fits : 2 ^ k < 2 ^ 32 = omega (arith, below, bounds c.args.n.listed) in
    let exact : (1 * 2 ^ k) % 2 ^ 32 ≡ 2 ^ k = ap (λ (x : ℕ). x % 2 ^ 32) (one-mul (2 ^ k)) ∙ mod-eq_of_lt fits in
    record { value = exact; below = rw exact below }
