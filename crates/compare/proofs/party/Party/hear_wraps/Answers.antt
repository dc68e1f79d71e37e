use Rattle.std.proofs.Common.{◌∙◌, arith}
use Rattle.protocol.specs.Work.{sum_slot, wrap_slot}
use Rattle.protocol.specs.Rounds.{round_words}
use Rattle.protocol.proofs.Line.{fewer}
use Rattle.protocol.proofs.Reading.{held_below}
use Rattle.compare.specs.Parties.{party_of}
use Rattle.compare.proofs.Closings.{three_below}
use Rattle.compare.proofs.Heard.{halves_heard}
use Rattle.compare.proofs.party.Party.hear_wraps.Goals as goal

pub exclusive_three-low-requires-clause-operands : goal.exclusive_three-low-requires-clause-operands
exclusive_three-low-requires-clause-operands c =
    let a = c.args in
    let n = a.self.n.bits in
    let w = a.self.n.listed in (
      three_below _ _ c.sums-sums.ensures (λ t. held_below n a.work.now (sum_slot n t) w),
      three_below _ _ c.known_tests-tests.ensures.2 (λ t. held_below n a.work.now (wrap_slot n t) w),
      omega (arith, c.wrap_triple-first.ensures),
    )

pub exclusive_three-low-requires-clause-from_line : goal.exclusive_three-low-requires-clause-from_line
unfolding round_words
exclusive_three-low-requires-clause-from_line c = fewer c.requires.1 _ (omega arith)

pub returns : goal.returns
returns c =
    let a = c.args in
    c.keep.ensures
    ∙ rw c.half_slot.ensures
    (halves_heard (party_of a.self) a.incoming.now a.work.now c.sums-sums.result c.known_tests-tests.result.wraps c.exclusive_three-low.result c.complements-halves.result
    c.sums-sums.ensures c.known_tests-tests.ensures.2 (rw c.wrap_triple-first.ensures at c.exclusive_three-low.ensures.value) c.complements-halves.ensures)
