-- `walk::zeros::as_zeros` meets its contract: each hear is its rule, of as many words as the round has, and the two results are the same in each part.
use mathlib.Core.Path.{sym, ap, ◌∙◌}
use mathlib.Core.Bool.{false≢true}
use Rattle.exchange.specs.Opening.{refusal_of}
use Rattle.walk.proofs.Same.{same_calls, taken, not_taken}
use Rattle.walk.proofs.zeros.as_zeros.Goals as goal

pub returns-then-is_ok : goal.returns-then-is_ok
returns-then-is_ok c =
    let tape = c.threes-tape.ensures.1 in
    let words = c.words-words.ensures.1 in
    let h = rw (tape, words) at c.hear.ensures in
    let z = rw (tape, words) at c.hear-2.ensures in
    let told = same_calls h.0 z.0 c.same.ensures in
    (λ e. (ap refusal_of (sym h.0.reply) ∙ taken _ (sym c.is_ok.ensures.value ∙ c.if-is_ok.true), told.0 e), λ e. told.1 e.1)

pub returns-else-is_ok : goal.returns-else-is_ok
returns-else-is_ok c =
    let h = rw (c.threes-tape.ensures.1, c.words-words.ensures.1) at c.hear.ensures in
    let refused = not_taken c.hear.new.self.answer (sym c.is_ok.ensures.value ∙ c.if-is_ok.false) in
    (λ e. absurd (false≢true (sym c.if-is_ok.false ∙ e)), λ e. absurd (refused (ap refusal_of h.0.reply ∙ e.0)))
