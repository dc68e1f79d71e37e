-- `exhaustive::bands::case` meets its contract: the tapes are dealt, so the band is taken and its answer is right.
use Rattle.std.proofs.Common.{◌≡◌, ℕ, ◌+◌, ◌%◌, ◌<◌, List, ap, ◌∙◌, arith}
use Rattle.refusals.proofs.Checks.{goes_on}
use Rattle.field.specs.Width.{modulus}
use Rattle.exhaustive.specs.Bands.{inside, band_at, TwoDealt}
use Rattle.exhaustive.proofs.Dealt.{band_right}
use Rattle.exhaustive.proofs.bands.case.Goals as goal

-- the shares add up to a
case_right : (a : ℕ) (t1 t2 : List ℕ) → a < 7 → TwoDealt 3 t1 t2
    → let band = band_at 3 2 5 6 ((a + 1) % 7) t1 t2 in
    (band.refusal ≡ 0) × (band.less ≡ inside 2 5 a)
unfolding modulus
case_right a t1 t2 below m =
    let sum : (6 + (a + 1) % 7) % 7 ≡ a = omega (arith, below) in
    let band = band_right 3 2 5 6 ((a + 1) % 7) t1 t2 m (omega arith) (omega arith) (omega arith) (omega arith) in
    (band.0, band.1 ∙ ap (inside 2 5) sum)

pub unwrap-requires : goal.unwrap-requires
unwrap-requires c =
    goes_on c.fresh_band.result (c.fresh_band.ensures.refusal ∙ (case_right c.args.a _ _ c.requires c.two_pairs.ensures.dealt).0)

pub returns-clause-right : goal.returns-clause-right
returns-clause-right c =
    rw c.unwrap.ensures at c.fresh_band.ensures.less ∙ (case_right c.args.a _ _ c.requires c.two_pairs.ensures.dealt).1
