use Rattle.std.proofs.Common.{◌∙◌}
use Rattle.protocol.specs.Rounds.{round_words, after_hearing}
use Rattle.compare.proofs.party.Party.hear_levels.Goals as goal

pub wraps-wraps-requires-clause-from_line : goal.wraps-wraps-requires-clause-from_line
unfolding round_words
wraps-wraps-requires-clause-from_line c = rw c.powers.ensures.width c.requires.1

pub returns : goal.returns
unfolding after_hearing
returns c =
    c.keep.ensures ∙ rw (c.wrap_slot.ensures, c.wraps-wraps.ensures, c.powers.ensures.words, c.powers.ensures.width)
