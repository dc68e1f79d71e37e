use Rattle.std.proofs.Common.{ℕ, ◌≡◌, ◌+◌, ◌*◌, sym, ap, ◌∙◌, get_or, mod-eq_of_lt, arith}
use Rattle.lists.proofs.Sums.{sum_more}
use Rattle.field.proofs.Widths.{bounds}
use Rattle.field.proofs.Congruences.{cong_refl, cong_eq, cong_mod, cong_add, ◌⊙◌}
use Rattle.shares.specs.Share.{opened}
use Rattle.protocol.specs.Work.{held}
use Rattle.protocol.specs.Levels.{level_match, wrap_share}
use Rattle.steps.proofs.levels.Powers.wrap_of.Invariants.{level}
use Rattle.steps.proofs.levels.Powers.wrap_of.Goals as goal

pub loop-i-init : goal.loop-i-init
loop-i-init c = (omega arith, omega (arith, bounds c.args.self.n.listed), cong_refl)

pub loop-i-preserved : goal.loop-i-preserved
unfolding held
loop-i-preserved c =
    let a = c.args in
    let n = a.self.n.bits in
    let i = c.loop-i.i in
    let g = a.test * n + i in
    let d = c.open-d.ensures.value ∙ ap (λ (v : ℕ). opened n v (get_or a.incoming.now g 0)) c.reduce.ensures.value in
    let next = c.level_match.ensures.value ∙ ap (λ (x : ℕ). level_match n a.side x a.self.words.now g) d in (
      omega arith,
      c.add-total.ensures.below,
      cong_eq c.add-total.ensures.value ⊙ cong_mod ⊙ cong_add c.loop-i.invariant.2 (cong_eq next)
          ⊙ cong_eq (sym (sum_more i (level n a.side a.self.words.now a.work.now a.incoming.now a.test))),
    )

pub returns-clause-value : goal.returns-clause-value
unfolding wrap_share
returns-clause-value c =
    let done : c.loop-i.i ≡ c.args.self.n.bits = omega arith in
    let total = rw done at c.loop-i.invariant.2 in
    sym (mod-eq_of_lt c.loop-i.invariant.1) ∙ total.same
