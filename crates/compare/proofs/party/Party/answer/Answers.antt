use Rattle.std.proofs.Common.{refl, ◌∙◌}
use Rattle.protocol.specs.Work.{half_slot}
use Rattle.protocol.specs.Answer.{half_opening, half_opened, answer_from}
use Rattle.protocol.specs.Rounds.{round_words, answer_share}
use Rattle.protocol.proofs.Reading.{held_below}
use Rattle.compare.proofs.Closings.{three_below}
use Rattle.compare.proofs.party.Party.answer.Goals as goal

pub answer-requires-clause-operands : goal.answer-requires-clause-operands
unfolding round_words
answer-requires-clause-operands c =
    let a = c.args in
    let n = a.self.n.bits in
    rw c.triples.ensures.width (three_below _ _ c.halves-halves.ensures (λ k. held_below n a.work.now (half_slot n k) a.self.n.listed), c.requires.1)

pub returns-clause-value : goal.returns-clause-value
unfolding answer_share answer_from half_opened half_opening
returns-clause-value c =
    c.answer.ensures.value ∙ rw (c.halves-halves.ensures, c.triples.ensures.words, c.triples.ensures.width) refl
