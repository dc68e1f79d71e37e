-- `encoding::codes::level_code` meets its contract: the share is below p, so X = p − 1 − v does not wrap.
use mathlib.Core.Path.{ap, ◌∙◌}
use native.Mathlib.Omega.{arith}
use Prim.Native.Nat.{ℕ, ◌-◌}
use borrow.Author.Tests.{eq-eqb, ne_eqb}
use Rattle.field.proofs.Widths.{bounds}
use Rattle.encoding.specs.Codes.{range_code, point_code, level_code}
use Rattle.encoding.proofs.codes.level_code.Goals as goal

-- the equation, before what the differences ask: another X fails here
pub returns-then-side-eq1 : goal.returns-then-side-eq1
unfolding level_code
returns-then-side-eq1 c =
    let a = c.args in
    rw (eq-eqb a.side 1 c.if-side-eq1.true)
    (c.range_code.ensures ∙ ap (λ (p : ℕ). range_code a.n.bits (p - 1 - a.v) a.level) c.modulus.ensures)

pub overflow_shr-result : goal.overflow_shr-result
overflow_shr-result c = omega (arith, bounds c.args.n.listed)

pub returns-else-side-eq1 : goal.returns-else-side-eq1
unfolding level_code point_code
returns-else-side-eq1 c = rw (ne_eqb c.args.side 1 c.if-side-eq1.false)
