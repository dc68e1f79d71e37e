use Rattle.std.proofs.Common.{ℕ, ◌≡◌, ◌-◌, ◌<◌, refl, ap, ◌∙◌, arith}
use Rattle.field.specs.Width.{modulus}
use Rattle.field.proofs.Widths.{bounds}
use Rattle.tape.specs.Layout.{square_count}
use Rattle.protocol.specs.Tests.{low_bit}
use Rattle.protocol.specs.Rounds.{round_words}
use Rattle.protocol.proofs.Ranges.{tabulated_below}
use Rattle.compare.specs.Parties.{party_of}
use Rattle.compare.proofs.Messages.{first_filled}
use Rattle.compare.proofs.party.Party.fill.Goals.{After-beyond-lows_from}
use Rattle.compare.proofs.party.Party.fill.Goals as goal

-- how many words of α · β come before the place at which the filling begins
begun : (b : After-beyond-lows_from)
    → b.beyond-lows_from.result ≡ b.words_of.result - b.args.count - square_count b.args.self.n.bits
begun b =
    b.beyond-lows_from.ensures
    ∙ ap (λ (k : ℕ). b.words_of.result - b.args.count - k) b.square_count-squares.ensures

pub open_lows-requires-clause-operands : goal.open_lows-requires-clause-operands
unfolding round_words
open_lows-requires-clause-operands c =
    let b = c.args.self in
    let n = b.n.bits in
    let bit : (i : ℕ) → low_bit n b.x b.y i < modulus n = λ i. omega (arith, bounds b.n.listed) in
    rw c.triples.ensures.width (
      b.sided,
      rw c.tests_of-tests.ensures.1 (tabulated_below 3 (low_bit n b.x b.y) bit),
      omega (arith, begun (goal.at.open_lows-requires-clause-operands c).After-beyond-lows_from, c.words_of.ensures),
    )

pub open_lows-requires-clause-room : goal.open_lows-requires-clause-room
unfolding round_words
open_lows-requires-clause-room c = rw c.triples.ensures.width (omega (arith, c.requires.1))

pub open-requires-clause-room : goal.open-requires-clause-room
unfolding round_words
open-requires-clause-room c = rw c.squares.ensures.width (omega (arith, c.requires.1, c.open_lows.auto))

pub returns : goal.returns
returns c =
    let a = c.args in
    let n = a.self.n.bits in
    λ work.
    c.open.ensures
    ∙ rw (
      c.squares.ensures.words,
      c.squares.ensures.width,
      c.open_lows.ensures,
      c.triples.ensures.words,
      c.triples.ensures.width,
      c.beyond-lows_from.ensures,
      c.square_count-squares.ensures,
      c.words_of.ensures,
      c.tests_of-tests.ensures.0,
      c.tests_of-tests.ensures.1,
    )
    (first_filled (party_of a.self) a.self.n.listed work a.out.now a.count (round_words n 1 - a.count) refl)
