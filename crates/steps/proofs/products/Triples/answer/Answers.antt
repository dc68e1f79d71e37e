use Rattle.std.proofs.Common.{ℕ, ◌≡◌, refl, ap₂, ◌∙◌, get_or}
use Rattle.field.specs.Subtraction.{minus}
use Rattle.protocol.specs.Answer.{half_opening, half_opened, answer_from}
use Rattle.steps.proofs.products.Triples.answer.Goals.{After-open-g}
use Rattle.steps.proofs.products.Triples.answer.Goals as goal

-- e, f and g
opened : (c : After-open-g) → let a = c.args in
    let word : ℕ → ℕ = half_opened a.self.n.bits (λ k. get_or a.v k 0) a.self.words.now a.incoming.now in
    (c.open-e.result ≡ word 0) × (c.open-f.result ≡ word 1) × (c.open-g.result ≡ word 2)
unfolding half_opened half_opening
opened c =
    let m = c.masks-m.ensures in (
      c.open-e.ensures.value ∙ rw (c.mask.ensures.value, m) refl,
      c.open-f.ensures.value ∙ rw (c.mask-2.ensures.value, m) refl,
      c.open-g.ensures.value ∙ rw (c.mask-3.ensures.value, m) refl,
    )

pub returns-clause-value : goal.returns-clause-value
unfolding answer_from
returns-clause-value c =
    let n = c.args.self.n.bits in
    let m = c.masks-m.ensures in
    let (e, f, g) = opened (goal.at.returns-clause-value c).After-open-g in
    c.sub.ensures.value
    ∙ ap₂ (minus n)
    (c.reduce_wide.ensures.value ∙ rw (c.constant.ensures.value, c.product-hu.ensures.value, c.product-hz.ensures.value, c.product-uz.ensures.value, e, f, g, m) refl)
    (c.reduce_wide-2.ensures.value ∙ rw (c.threefold-huz.ensures.value, e, f, g, m) refl)
