-- A message on its way to the other box, its zeros respelled or not.
use Prim.Native.Nat.{ℕ, ◌+◌, ◌≤◌}
use mathlib.Core.Path.{◌≡◌, refl, ap, ◌∙◌}
use mathlib.Core.List.{List, ◌++◌}
use native.Mathlib.Omega.{arith}
use lib.ListN.{length, get_or}
use Rattle.board.proofs.Zeros.{zeros_append, zeros_most}
use Rattle.lists.proofs.Tabulate.{tabulated}
use Rattle.protocol.specs.Sizes.{round_for}
use Rattle.rules.specs.Tasks.{count_of}
use Rattle.rules.specs.declared.state.State.{State}
use Rattle.rules.specs.declared.state.Turn.{Turn}
use Rattle.rules.proofs.Batches.{count_most}
use Rattle.rules.proofs.Ranges.{ranged}
use Rattle.rules.proofs.Sizes.{round_most as joined_most}
use Rattle.exchange.specs.Boxes.{Ready}
use Rattle.shares.specs.Reading.{read_words, delivered}
use Rattle.shares.proofs.Reading.{delivered_read}
use Rattle.vectors.specs.declared.spelling.Spelling.{Spelling}
use Rattle.vectors.specs.declared.spelling.Spelling.TheVariants.{AsSent, Respelled}
use Rattle.vectors.specs.Sent.{respells, respelled_in}
use Rattle.vectors.proofs.Jobs.{ready_counted}

-- without a board it stays
pub carried_as_is : (n : ℕ) (spelling : Spelling) (words : List ℕ) → spelling ≡ AsSent → words ≡ delivered n (λ i. respells spelling) words
unfolding delivered
carried_as_is n spelling words as_is = rw as_is (tabulated words (length words) (λ i. get_or words i 0) refl (λ i less. refl))

-- ---- the zeros

pub respelled_append : (spelling : Spelling) (a b : List ℕ) → respelled_in spelling (a ++ b) ≡ respelled_in spelling a + respelled_in spelling b
respelled_append Respelled a b = zeros_append a b
respelled_append AsSent a b = refl

pub respelled_most : (spelling : Spelling) (words : List ℕ) → respelled_in spelling words ≤ length words
respelled_most Respelled words = zeros_most words
respelled_most AsSent words = omega arith

-- what arrives is read as the message that was sent
pub arrived : (n : ℕ) (spelling : Spelling) (sent after message : List ℕ) → sent ≡ message → after ≡ delivered n (λ i. respells spelling) sent
    → read_words n after ≡ read_words n message
arrived n spelling sent after message front is =
    ap (read_words n) is ∙ delivered_read n (λ i. respells spelling) sent ∙ ap (read_words n) front

-- no round has more words than there is room for
pub round_most : {s : State} {first : ℕ} {turn : Turn} {tapes work : List ℕ} → Ready s first turn tapes work → (round : ℕ)
    → round_for s.n (count_of s.batch.task) round ≤ 23112
round_most {s} r round = joined_most s.n (count_of s.batch.task) (ranged s r.ranged).width (count_most (count_of s.batch.task) (ready_counted r)).1 round
