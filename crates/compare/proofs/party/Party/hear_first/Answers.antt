use Rattle.std.proofs.Common.{ℕ, ◌-◌, ◌≤◌, List, ap₂, ◌∙◌, arith}
use Rattle.std.proofs.lemmas.List.Edits.{sets}
use Rattle.field.specs.Width.{modulus}
use Rattle.field.proofs.Widths.{bounds}
use Rattle.shares.specs.Side.{other}
use Rattle.shares.proofs.Sides.{each_side, constant_below}
use Rattle.tape.specs.Layout.{square_count}
use Rattle.protocol.specs.Words.{Below}
use Rattle.protocol.specs.Tests.{low_bit}
use Rattle.protocol.specs.Work.{sum_slot}
use Rattle.protocol.specs.Rounds.{low_products, round_words, after_hearing}
use Rattle.protocol.proofs.Line.{fewer}
use Rattle.compare.specs.Parties.{party_of}
use Rattle.compare.proofs.Closings.{three_below}
use Rattle.compare.proofs.Heard.{counts_heard, sums_heard}
use Rattle.compare.proofs.party.Party.hear_first.Goals as goal

pub close-requires-clause-from_line : goal.close-requires-clause-from_line
unfolding round_words
close-requires-clause-from_line c =
    rw c.squares.ensures.width (fewer c.requires.1 (square_count c.args.self.n.bits) (omega arith))

pub overflow_sub-self : goal.overflow_sub-self
overflow_sub-self c =
    each_side (λ (s : ℕ). s ≤ 3) (omega arith) (omega arith) _ c.args.self.sided

pub exclusive_three-sums-requires-clause-operands : goal.exclusive_three-sums-requires-clause-operands
exclusive_three-sums-requires-clause-operands c =
    let b = c.args.self in
    let n = b.n.bits in
    let bits : Below (modulus n) c.tests_of-tests.result.low =
    three_below _ (low_bit n b.x b.y) c.tests_of-tests.ensures.1 (λ i. omega (arith, bounds b.n.listed)) in (
      three_below _ _ c.lows-own.ensures (λ i. constant_below b.side (bits.at i)),
      three_below _ _ c.lows-others.ensures (λ i. constant_below (3 - b.side) (bits.at i)),
      omega (arith, c.low_triple-first.ensures),
    )

pub exclusive_three-sums-requires-clause-from_line : goal.exclusive_three-sums-requires-clause-from_line
unfolding round_words
exclusive_three-sums-requires-clause-from_line c =
    fewer c.requires.1 _ (omega (arith, c.square_count-from.ensures))

pub returns : goal.returns
unfolding after_hearing low_products other
returns c =
    let a = c.args in
    let n = a.self.n.bits in
    let b = party_of a.self in
    c.keep.ensures
    ∙ rw (
      c.sum_slot.ensures,
      c.exclusive_three-sums.ensures.value,
      c.square_count-from.ensures,
      c.low_triple-first.ensures,
      c.lows-others.ensures,
      c.lows-own.ensures,
      c.tests_of-tests.ensures.1,
      c.close.ensures,
      c.tests_of-tests.ensures.0,
      c.squares.ensures.words,
      c.squares.ensures.width,
    )
    (ap₂ (λ (counts sums' : List ℕ). sets (sets a.work.now 0 counts) (sum_slot n 0) sums')
    (counts_heard b a.incoming.now a.self.n.listed) (sums_heard b a.incoming.now a.self.n.listed a.self.sided))
