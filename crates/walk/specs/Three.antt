-- The three comparisons on dealt tapes 1 to 3: as one job, and one by one.
use Rattle.std.specs.Prelude.{ℕ, ◌+◌, ◌*◌, ◌≤◌, ◌≡◌, List, [], ◌∷◌, Option, Some, None, ⊤, take, drop, get_or}
use Rattle.lists.specs.Joined.{chained, part}
use Rattle.protocol.specs.Rounds.{last_round, round_words}
use Rattle.deals.specs.Deals.{dealt_tape}
use Rattle.rules.specs.Answers.{reply_of}
use Rattle.rules.specs.declared.state.Task.TheVariants.{Compare}
use Rattle.walk.specs.Said.{as_reply, shares_in}
use Rattle.walk.specs.Courses.{Asked, asked, Woken, Course, CourseFrom}
use Rattle.walk.specs.declared.progress.Pair.{Pair}
use Rattle.walk.specs.declared.one_by_one.Part.{Part}
use Rattle.walk.specs.declared.one_by_one.Part.TheVariants.{Words, Marks, Share}

-- a box's tape of comparison i, dealt from the seed that is the tape's number, and all three
abbrev pub dealt_at : ℕ → ℕ → List ℕ
dealt_at side i = dealt_tape (i + 1) 3 5 side (i + 1)

abbrev pub dealt_tapes : ℕ → List ℕ
dealt_tapes side = chained 3 (dealt_at side)

-- so many of the comparisons from this one on, as a job
abbrev pub three_of : ℕ → ℕ → Asked
three_of from count =
    asked (1 + from) (Compare count) (Compare count)
    (take (2 * count) (drop (2 * from) (5 ∷ 1 ∷ 6 ∷ 2 ∷ 3 ∷ 4 ∷ [])))
    (take (2 * count) (drop (2 * from) (5 ∷ 3 ∷ 5 ∷ 1 ∷ 2 ∷ 1 ∷ [])))
    (take (149 * count) (drop (149 * from) (dealt_tapes 1)))
    (take (149 * count) (drop (149 * from) (dealt_tapes 2)))

-- the last step of a job, its last hear
abbrev pub last_step : ℕ
last_step = 2 * last_round + 1

-- all as one job, after so many steps
abbrev pub Together : ℕ → Pair → Type 0
Together steps p = CourseFrom Woken (three_of 0 3) steps p

-- so many of them one by one, each to its end
pub data Done : ℕ → Pair → Type 0 where
  none : {p : Pair} → Woken p → Done 0 p
  next : {done : ℕ} {b a : Pair} → Done done b → Course (three_of done 1) b last_step a → Done (done + 1) a

-- and so many steps of the one after them
abbrev pub OneByOne : ℕ → ℕ → Pair → Type 0
OneByOne done steps p = CourseFrom (Done done) (three_of done 1) steps p

-- ---- what job i has together and alone

-- a round that there is
abbrev pub InRounds : Part → Type 0
InRounds (Words round) = round ≤ last_round
InRounds Marks = ⊤
InRounds Share = ⊤

-- the step after which it is there
abbrev pub step_of : Part → ℕ
step_of (Words round) = 2 * round
step_of Marks = last_step
step_of Share = last_step

-- both finished, and answer share i is the one of the job alone
abbrev pub SameShare : ℕ → Option (List ℕ) → Option (List ℕ) → Type 0
SameShare i None one = ⊥
SameShare i (Some all) None = ⊥
SameShare i (Some all) (Some one) = get_or all i 0 ≡ get_or one 0 0

-- of both boxes: part i of the joined message is what the job alone says; the marks up to its own are the same, which of the last job is the whole
-- tally; so is its answer share
abbrev pub Same : Part → ℕ → Pair → Pair → Type 0
Same (Words round) i joined alone =
    (part (round_words 3 round) joined.box1.out i ≡ take (round_words 3 round) alone.box1.out)
    × (part (round_words 3 round) joined.box2.out i ≡ take (round_words 3 round) alone.box2.out)
Same Marks i joined alone =
    (take (4 * (i + 2)) joined.box1.tally ≡ take (4 * (i + 2)) alone.box1.tally)
    × (take (4 * (i + 2)) joined.box2.tally ≡ take (4 * (i + 2)) alone.box2.tally)
Same Share i joined alone =
    SameShare i (shares_in (reply_of as_reply joined.box1.answer)) (shares_in (reply_of as_reply alone.box1.answer))
    × SameShare i (shares_in (reply_of as_reply joined.box2.answer)) (shares_in (reply_of as_reply alone.box2.answer))
