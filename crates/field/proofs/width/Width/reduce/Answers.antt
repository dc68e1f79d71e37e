-- `field::width::Width::reduce` meets its contract: the quotient is at most one too small, so what is left is below 2p.
use Rattle.std.proofs.Common.{◌≡◌, ℕ, ◌+◌, ◌-◌, ◌*◌, ◌/◌, ◌%◌, ◌<◌, ◌≤◌, sym, ap, ◌∙◌, mul-le-mul, div-le_self, arith, rules}
use native.Mathlib.Nat.{add-mul-mod_self_left}
use Rattle.field.proofs.Widths.{bounds}
use Rattle.field.proofs.Remainders.{Quotient, quotient}
use Rattle.field.proofs.width.Width.reduce.Goals.{After-modulus-p}
use Rattle.field.proofs.width.Width.reduce.Goals as goal

positive : (c : After-modulus-p) → 0 < c.modulus-p.result
positive c = omega (arith, bounds c.args.self.listed, c.modulus-p.ensures)

-- the quotient that is taken, before the sums ask that they fit: a wrong one fails here
taken : (c : After-modulus-p)
    → let p = c.modulus-p.result in
    Quotient p c.args.word (c.args.word * (4294967296 / p) / 4294967296)
taken c = quotient (positive c) (search rules)

pub returns : goal.returns
returns c =
    let p = c.modulus-p.result in
    let w = c.args.word in
    let q = w * (4294967296 / p) / 4294967296 in
    let r = c.reduce_once.ensures in
    let back : w ≡ (w - q * p) + p * q = omega (arith, (taken (goal.at.returns c).After-modulus-p).most) in
    let same : w % p ≡ (w - q * p) % p = ap (λ (y : ℕ). y % p) back ∙ add-mul-mod_self_left (w - q * p) p q in
    let e = c.modulus-p.ensures in
    record { value = r.value ∙ ap (λ (m : ℕ). (w - q * p) % m) (sym e) ∙ sym same ∙ ap (λ (m : ℕ). w % m) e; below = r.below }

pub nonzero_div-turns : goal.nonzero_div-turns
nonzero_div-turns c = positive (goal.at.nonzero_div-turns c).After-modulus-p

pub overflow_mul-turns : goal.overflow_mul-turns
overflow_mul-turns c =
    let word : c.args.word ≤ 4294967295 = omega arith in
    omega (arith, mul-le-mul word (div-le_self 4294967296 c.modulus-p.result))

pub overflow_mul-turns-2 : goal.overflow_mul-turns-2
overflow_mul-turns-2 c = omega (arith, (taken (goal.at.overflow_mul-turns-2 c).After-modulus-p).most)

pub overflow_sub-word : goal.overflow_sub-word
overflow_sub-word c = (taken (goal.at.overflow_sub-word c).After-modulus-p).most

pub reduce_once-requires : goal.reduce_once-requires
reduce_once-requires c = omega (arith, (taken (goal.at.reduce_once-requires c).After-modulus-p).near, (taken (goal.at.reduce_once-requires c).After-modulus-p).most, c.modulus-p.ensures)
