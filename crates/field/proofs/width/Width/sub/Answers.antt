-- `field::width::Width::sub` meets its contract: a − b is from −p to p − 1.
use Rattle.std.proofs.Common.{◌≡◌, ℕ, ◌+◌, ◌-◌, ◌%◌, ap, ◌∙◌, arith}
use Rattle.field.specs.Width.{modulus}
use Rattle.field.specs.Subtraction.{minus}
use Rattle.field.proofs.width.Width.sub.Goals as goal

pub returns : goal.returns
unfolding minus
returns c =
    let n = c.args.self.bits in
    let r = c.difference.ensures in
    let regrouped : c.args.a + modulus n - c.args.b ≡ c.args.a + (modulus n - c.args.b) = omega (arith, c.requires.1) in
    record { value = r.value ∙ ap (λ (y : ℕ). y % modulus n) regrouped; below = r.below }
