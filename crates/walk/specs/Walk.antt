-- What the walk reads off an answer and a state.
use Rattle.std.specs.Prelude.{ℕ, ◌+◌, cond, true, List, [], ◌∷◌, ◌++◌, eqb, length, get_or, replicate, take, ◌≡◌}
use Rattle.lists.specs.Tabulate.{tabulate}
use Rattle.lists.specs.Joined.{chained}
use Rattle.tape.specs.Layout.{trailer}
use Rattle.tape.specs.Plain.{plain_tape}
use Rattle.protocol.specs.Rounds.{round_words}
use Rattle.rules.specs.Answers.{reply_of}
use Rattle.rules.specs.Tasks.{pairs_of}
use Rattle.rules.specs.Batches.{no_batch, batch_of}
use Rattle.rules.specs.Calls.{Result, start_rule, speak_rule, hear_rule}
use Rattle.rules.specs.declared.state.Turn.{Turn}
use Rattle.rules.specs.declared.state.Phase.TheVariants.{Idle, Job}
use Rattle.rules.specs.declared.state.Task.TheVariants.{Compare, Band}
use Rattle.rules.specs.declared.state.Batch.{Batch}
use Rattle.rules.specs.declared.state.State.{State}
use Rattle.exchange.specs.Opening.{refusal_of}
use Rattle.walk.specs.Said.{as_reply}
use Rattle.walk.specs.declared.calls.Tried.{Tried}
use Rattle.walk.specs.declared.memory.BoxMemory.{BoxMemory}

-- box 1 awake, with a tally of that length
abbrev pub idle_state : ℕ → State
idle_state tally = record { n = 3; side = 1; pair = 5; tally = tally; phase = Idle; batch = no_batch }

-- the same, with another length of tally
abbrev pub with_tally : State → ℕ → State
with_tally s tally = record { n = s.n; side = s.side; pair = s.pair; tally = tally; phase = s.phase; batch = s.batch }

-- the same, of another side
abbrev pub with_side : State → ℕ → State
with_side s side = record { n = s.n; side = side; pair = s.pair; tally = s.tally; phase = s.phase; batch = s.batch }

-- box 1 in a job on tape 0 with the shares 5 and 1
abbrev pub job_state : ℕ → Turn → State
job_state tally turn = record { n = 3; side = 1; pair = 5; tally = tally; phase = Job turn; batch = batch_of 0 (Compare 1) (5 ∷ 1 ∷ []) }

-- box 1 in whatever job
abbrev pub due_state : Turn → Batch → State
due_state turn batch = record { n = 3; side = 1; pair = 5; tally = 16; phase = Job turn; batch = batch }

-- what it holds of a job of two on tapes 0 and 1 with the shares 5 and 1, then 6 and 2
abbrev pub two_batch : Batch
two_batch = batch_of 0 (Compare 2) (5 ∷ 1 ∷ 6 ∷ 2 ∷ [])

-- and of a band on tapes 0 and 1 with the bounds 2 and 5, where its share of a is 3
abbrev pub band_batch : Batch
band_batch = batch_of 0 (Band 2 5) (pairs_of 1 (Band 2 5) (3 ∷ []))

-- a start of one job, with these shares
abbrev pub one_start : State → ℕ → ℕ → ℕ → List ℕ → List ℕ → List ℕ → Result
one_start s number x y tape work tally = start_rule s number (Compare 1) (x ∷ y ∷ []) tape work tally

-- a box's plain tape of width 3 and pair 5
abbrev pub box_tape : ℕ → ℕ → List ℕ
box_tape side number = plain_tape 3 5 side number

-- such tapes joined, one for each of these sides, on consecutive tape numbers
abbrev pub joined_tapes : List ℕ → ℕ → List ℕ
joined_tapes sides first = chained (length sides) (λ i. box_tape (get_or sides i 0) (first + i))

-- so many words of what stands in the buffers that a call is lent to write
abbrev pub filler : ℕ → List ℕ
filler count = replicate count 9

-- a speak and a hear of round 1 in a job of two, or a band, on tapes 0 and 1, where out and work have room for three
abbrev pub roomy_speak : State → Result
roomy_speak s = speak_rule s 0 1 (joined_tapes (1 ∷ 1 ∷ []) 0) (tabulate 200 (λ k. 0)) (filler 99)

abbrev pub roomy_hear : State → Result
roomy_hear s = hear_rule s 0 1 (joined_tapes (1 ∷ 1 ∷ []) 0) (filler 300) (tabulate 66 (λ k. 0))

-- what is told of a call in a state: the rule's reply, and the rule's state, and it's called kept just when the rule leaves the state, and the buffer, as it was
pub record Answered (tried : Tried) (state : State) (buffer : List ℕ) (rule : Result) : Type 0 where
  pub reply : reply_of as_reply tried.answer ≡ rule.reply
  pub after : tried.state ≡ rule.state
  pub same : tried.kept ≡ true → (state ≡ rule.state) × (buffer ≡ rule.buffer)
  pub kept : state ≡ rule.state → buffer ≡ rule.buffer → tried.kept ≡ true

-- a tally of four fresh tapes
abbrev pub fresh_tally : List ℕ
fresh_tally = replicate 16 255

-- and of ten
abbrev pub ten_fresh : List ℕ
ten_fresh = replicate 40 255

-- four where tapes 0 and 2 are spent
abbrev pub spent_tally : List ℕ
spent_tally = (replicate 4 0 ++ replicate 4 255) ++ (replicate 4 0 ++ replicate 4 255)

-- box 1's tally after so many steps of a job on tape 0; the start is step 1
abbrev pub tally_after : ℕ → List ℕ
tally_after steps = cond (eqb steps 0) fresh_tally (replicate 4 0 ++ replicate 12 255)

-- a box after a call: the rule's reply, state and buffer
pub record After (b : BoxMemory) (buffer : List ℕ) (rule : Result) : Type 0 where
  pub reply : reply_of as_reply b.answer ≡ rule.reply
  pub state : b.state ≡ rule.state
  pub left : buffer ≡ rule.buffer

-- a box's tape 0 with a body of threes
abbrev pub threes_tape : ℕ → List ℕ
threes_tape side = tabulate 142 (λ k. 3) ++ trailer 3 5 side 0

-- a hear on it, of as many of these words as the round has
abbrev pub round_hear : State → ℕ → ℕ → List ℕ → List ℕ → Result
round_hear state side round work incoming = hear_rule state 0 round (threes_tape side) work (take (round_words 3 round) incoming)

-- such a hear is taken, and it's the hear of zeros: the same reply, state and work
abbrev pub HeardAsZeros : State → ℕ → ℕ → List ℕ → List ℕ → Type 0
HeardAsZeros state side round work incoming =
    (refusal_of (round_hear state side round work incoming).reply ≡ 0)
    × (round_hear state side round work incoming ≡ round_hear state side round work (tabulate 33 (λ k. 0)))
