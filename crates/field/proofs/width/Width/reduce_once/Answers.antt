-- `field::width::Width::reduce_once` meets its contract: x − p is from −p to p − 1.
use Rattle.std.proofs.Common.{◌≡◌, ℕ, ◌+◌, ◌-◌, ◌%◌, ap, ◌∙◌, arith}
use Rattle.field.specs.Width.{modulus}
use Rattle.field.proofs.Widths.{bounds}
use Rattle.field.proofs.width.Width.reduce_once.Goals as goal

pub overflow_cast-x : goal.overflow_cast-x
overflow_cast-x c = omega (arith, bounds c.args.self.listed)

pub returns : goal.returns
returns c =
    let n = c.args.self.bits in
    let r = c.difference.ensures in
    let back : c.args.x + modulus n - c.modulus.result ≡ c.args.x = omega (arith, c.modulus.ensures) in
    record { value = r.value ∙ ap (λ (y : ℕ). y % modulus n) back; below = r.below }
