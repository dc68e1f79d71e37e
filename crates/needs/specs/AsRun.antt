-- The figures are what a run of so many jobs takes and reports (document 02, P8 and P9), by the rules of the calls themselves. A band is a run of two (P10).
use Rattle.std.specs.Prelude.{ℕ, ◌+◌, ◌*◌, ◌<◌, ◌≡◌, Bool, true, false, not, ◌||◌, cond, List, [], ◌∷◌, map, eqb, ltb, length}
use Rattle.lists.specs.Joined.{chained}
use Rattle.field.specs.Width.{listed}
use Rattle.shares.specs.Side.{is_side}
use Rattle.tape.specs.Order.{in_order}
use Rattle.tape.specs.Plain.{plain_tape}
use Rattle.protocol.specs.Rounds.{at_round}
use Rattle.protocol.specs.Sizes.{count_fits}
use Rattle.refusals.specs.Numbers.{number_of}
use Rattle.refusals.specs.Grounds.{Ground, earliest_of, numbers_of}
use Rattle.rules.specs.Answers.{spoke}
use Rattle.rules.specs.Tasks.{count_of}
use Rattle.rules.specs.Batches.{tape_part}
use Rattle.rules.specs.Grounds.{word_grounds}
use Rattle.rules.specs.AnyCall.{Call, start, speak, hear, grounds_of, ground_of, result_of}
use Rattle.rules.specs.declared.state.Task.{Task}
use Rattle.rules.specs.declared.state.State.{State}
use Rattle.needs.specs.Figures.{Figures, needs_grounds, needs_rule}

-- some ground of a list has that number
abbrev pub has_number : ℕ → List Ground → Bool
has_number number [] = false
has_number number (g ∷ gs) = eqb (number_of g.refusal) number || has_number number gs

-- those before the last that has it
abbrev pub before : ℕ → List Ground → List Ground
before number [] = []
before number (g ∷ gs) = cond (has_number number gs) (g ∷ before number gs) []

-- the call comes to its last ground with that number: none before it holds
abbrev pub Reached : ℕ → State → Call → Type 0
Reached number s call = earliest_of (before number (grounds_of s call)) ≡ 0

-- ---- the figures of so many jobs

abbrev pub tape_needed : ℕ → ℕ → ℕ
tape_needed n count = (needs_rule n count).tape

abbrev pub round_needed : ℕ → ℕ → ℕ → ℕ
round_needed n count round = at_round round (needs_rule n count).rounds 0

abbrev pub work_needed : ℕ → ℕ → ℕ
work_needed n count = (needs_rule n count).work

-- so many times the figures
abbrev pub times : ℕ → Figures → Figures
times count f = record { refusal = f.refusal; tape = count * f.tape; rounds = map (λ w. count * w) f.rounds; work = count * f.work }

-- document 01's plain tapes of so many numbers, joined
abbrev pub plain_tapes : ℕ → ℕ → ℕ → ℕ → ℕ → List ℕ
plain_tapes n pair side first count = chained count (λ i. plain_tape n pair side (first + i))

-- ---- what they say of a run: of a start of so many jobs, and of a speak and a hear of a state in so many

pub record AsRun : Type 0 where
  -- tapes that a call takes have the figure's length, and no other
  pub start_tapes : (s : State) (first : ℕ) (task : Task) (shares tapes work tally : List ℕ) → ground_of s (start first task shares tapes work tally) ≡ 0
      → length tapes ≡ tape_needed s.n (count_of task)
  pub speak_tapes : (s : State) (first round : ℕ) (tapes work out : List ℕ) → ground_of s (speak first round tapes work out) ≡ 0
      → length tapes ≡ tape_needed s.n (count_of s.batch.task)
  pub hear_tapes : (s : State) (first round : ℕ) (tapes work incoming : List ℕ) → ground_of s (hear first round tapes work incoming) ≡ 0
      → length tapes ≡ tape_needed s.n (count_of s.batch.task)
  -- and there are such tapes for every listed width, each box, any first number and each count: the plain tapes joined, of which each part is in order
  pub tapes_fit : (n pair side first count : ℕ) → listed n ≡ true → is_side side ≡ true → count_fits count ≡ true
      → (length (plain_tapes n pair side first count) ≡ tape_needed n count)
      × ((i : ℕ) → i < count → in_order n pair side (first + i) (tape_part n (plain_tapes n pair side first count) i) ≡ true)
  -- a speak that is not refused answers the round's figure
  pub spoken : (s : State) (first round : ℕ) (tapes work out : List ℕ) → ground_of s (speak first round tapes work out) ≡ 0
      → (result_of s (speak first round tapes work out)).reply ≡ spoke (round_needed s.n (count_of s.batch.task) round)
  -- a start that comes to its last 12 is refused with it just when work is shorter than its figure
  pub start_room : (s : State) (first : ℕ) (task : Task) (shares tapes work tally : List ℕ) → Reached 12 s (start first task shares tapes work tally)
      → ground_of s (start first task shares tapes work tally) ≡ cond (ltb (length work) (work_needed s.n (count_of task))) 12 0
  -- a speak, just when work or out is shorter than its figure
  pub speak_room : (s : State) (first round : ℕ) (tapes work out : List ℕ) → Reached 12 s (speak first round tapes work out)
      → ground_of s (speak first round tapes work out)
      ≡ cond (ltb (length work) (work_needed s.n (count_of s.batch.task)) || ltb (length out) (round_needed s.n (count_of s.batch.task) round)) 12 0
  -- a hear, just when work is shorter or incoming has another length; otherwise only its words can be refused, with 13
  pub hear_room : (s : State) (first round : ℕ) (tapes work incoming : List ℕ) → Reached 12 s (hear first round tapes work incoming)
      → ground_of s (hear first round tapes work incoming)
      ≡ cond (ltb (length work) (work_needed s.n (count_of s.batch.task)) || not (eqb (length incoming) (round_needed s.n (count_of s.batch.task) round))) 12
      (earliest_of (word_grounds s.n incoming))
  -- several jobs: so many times one
  pub several : (n count : ℕ) → listed n ≡ true → count_fits count ≡ true → needs_rule n count ≡ times count (needs_rule n 1)
  -- the refusals, in this order
  pub order : (n count : ℕ) → numbers_of (needs_grounds n count) ≡ 2 ∷ 16 ∷ []
