-- What is counted: the counts whose filling leaves every place of out as it must be.
use Rattle.std.specs.Prelude.{ℕ, ◌+◌, Bool, List, []}
use Rattle.encoding.specs.Matching.{indicator}
use Rattle.protocol.specs.Rounds.{round_words, message}
use Rattle.protocol.specs.Filling.{filled}
use Rattle.compare.specs.declared.party.Party.{Party}
use Rattle.compare.specs.Parties.{party_of}
use Rattle.fills.specs.Due.{blank, as_due}

-- round 1's message, which no work goes into
abbrev pub message_of : Party → List ℕ
message_of b = message (party_of b) [] 1

-- whether a filling of so many words, three words more than the message being lent, leaves every place as it must be
unfoldable pub fill_agrees : Party → ℕ → Bool
fill_agrees b count =
    let words = message_of b in
    as_due (filled (blank (round_words b.n.bits 1 + 3)) words count) words count

-- 1 if so for the i-th count after the first
abbrev pub right_at : Party → ℕ → ℕ → ℕ
right_at b first i = indicator (fill_agrees b (first + i))
