use Rattle.std.proofs.Common.{ℕ, ◌≡◌, ◌+◌, ◌-◌, ◌*◌, ◌^◌, ◌≤◌, refl, ap, ◌∙◌, add-one, arith}
use Rattle.std.proofs.Math.Nat.{pow-suc, pow-zero}
use Rattle.lists.specs.Tabulate.{sum}
use Rattle.lists.proofs.Sums.{sum_more}
use Rattle.field.specs.Width.{modulus}
use Rattle.field.specs.Congruence.{Cong}
use Rattle.field.proofs.Widths.{bounds}
use Rattle.field.proofs.Congruences.{cong_refl, cong_eq, cong_add, cong_mul, ◌⊙◌}
use Rattle.shares.specs.Share.{constant_share}
use Rattle.tape.specs.Letters.{group_power}
use Rattle.encoding.specs.Polynomial.{coefficient}
use Rattle.encoding.proofs.Values.{coefficient_below}
use Rattle.protocol.specs.Levels.{level_match}
use Rattle.steps.proofs.levels.Powers.level_match.Invariants.{term}
use Rattle.steps.proofs.levels.Powers.level_match.Goals as goal

-- one step of Horner's rule, from j + 1 to j
step : {p : ℕ} (f : ℕ → ℕ) (d c s total next j whole : ℕ) → f j ≡ c * (d ^ (j + 1) * s) → Cong p next (total * d + c * s)
    → Cong p (sum (j + 1) f + total * d ^ (j + 1 + 1)) whole → Cong p (sum j f + next * d ^ (j + 1)) whole
step f d c s total next j whole now made before =
    let more : d ^ (j + 1 + 1) ≡ d ^ (j + 1) * d = ap (λ (i : ℕ). d ^ i) (add-one (j + 1)) ∙ pow-suc d (j + 1) in
    cong_add cong_refl (cong_mul made cong_refl)
    ⊙ cong_eq {b = sum (j + 1) f + total * d ^ (j + 1 + 1)} (rw (sum_more j f, now, more) (omega arith))
    ⊙ before

pub bounds-row-k : goal.bounds-row-k
bounds-row-k c =
    omega (arith, c.requires.coefficients.0, c.loop-k.invariant.0, bounds c.args.self.n.listed)

pub horner-total-requires : goal.horner-total-requires
horner-total-requires c =
    let k = c.loop-k.k - 1 + 1 in
    let n = c.args.self.n.bits in
    let most : k ≤ n = omega (arith, c.loop-k.invariant.0, c.loop-k-test.true) in
    (c.loop-k.invariant.1, c.requires.operands.0, omega (arith, c.requires.coefficients.1 k most, coefficient_below n k c.args.self.n.listed most), c.args.self.below.at _)

pub loop-k-preserved : goal.loop-k-preserved
loop-k-preserved c =
    let a = c.args in
    let n = a.self.n.bits in
    let f = term n a.d a.self.words.now a.g in
    let j = c.loop-k.k - 1 in
    let e : c.loop-k.k ≡ j + 1 = omega (arith, c.loop-k-test.true) in
    let power = group_power n a.self.words.now a.g in
    let place : a.g * (n + 1) + j + 1 ≡ a.g * (n + 1) + (j + 1) = omega arith in
    let made : Cong (modulus n) c.horner-total.result (c.loop-k.total * a.d + coefficient n (j + 1) * power (j + 1)) =
    record { same = c.horner-total.ensures.same_value } ⊙ cong_eq (rw (c.requires.coefficients.1 (j + 1) (omega (arith, e, c.loop-k.invariant.0)), place) refl) in (
      omega (arith, c.loop-k.invariant.0),
      c.horner-total.ensures.below,
      step f a.d (coefficient n (j + 1)) (power (j + 1)) c.loop-k.total c.horner-total.result j (sum n f) refl made (rw (← e) c.loop-k.invariant.2),
    )

pub horner-requires : goal.horner-requires
horner-requires c =
    let n = c.args.self.n.bits in
    (c.loop-k.invariant.1, c.requires.operands.0, omega (arith, c.constant-constant.ensures.most, c.requires.coefficients.1 0 (omega arith), coefficient_below n 0 c.args.self.n.listed (omega arith)), omega (arith, bounds c.args.self.n.listed))

pub returns-clause-value : goal.returns-clause-value
unfolding level_match
returns-clause-value c =
    let a = c.args in
    let n = a.self.n.bits in
    let done : c.loop-k.k ≡ 0 = omega arith in
    let f = term n a.d a.self.words.now a.g in
    let whole = rw done at c.loop-k.invariant.2 in
    let last : Cong (modulus n) (c.loop-k.total * a.d) (sum n f) =
    cong_eq {b = sum 0 f + c.loop-k.total * a.d ^ (0 + 1)} (rw (add-one 0, pow-suc a.d 0, pow-zero a.d) (omega arith)) ⊙ whole in
    let first = c.constant-constant.ensures.value ∙ ap (constant_share a.side) (c.requires.coefficients.1 0 (omega arith)) in
    let total : Cong (modulus n) c.horner.result (constant_share a.side (coefficient n 0) + sum n f) =
    record { same = c.horner.ensures.same_value }
    ⊙ cong_eq {b = constant_share a.side (coefficient n 0) + c.loop-k.total * a.d} (omega (arith, first))
    ⊙ cong_add cong_refl last in
    c.reduce_once.ensures.value ∙ total.same
