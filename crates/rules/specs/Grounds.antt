-- The grounds of refusal of each call, in document 01's order. The first that holds counts; 0 where none does.
use Rattle.std.specs.Prelude.{ℕ, ◌+◌, ◌*◌, Bool, true, not, ◌&&◌, ◌||◌, List, [], ◌∷◌, ◌++◌, eqb, leb, ltb, length, get_or}
use Rattle.lists.specs.Every.{every}
use Rattle.lists.specs.Joined.{chained}
use Rattle.field.specs.Width.{listed, modulus}
use Rattle.shares.specs.Side.{is_side}
use Rattle.shares.specs.Reading.{legible}
use Rattle.tape.specs.Order.{in_order}
use Rattle.protocol.specs.Sizes.{count_fits, tape_for, round_for, work_for}
use Rattle.refusals.specs.Grounds.{Ground, ◌when◌, earliest_of, joined}
use Rattle.refusals.specs.declared.Refusal.TheVariants.{Asleep, Width, Side, Tally, Busy, NoJob, Number, Spent, Late, Share, Tape, Turn as NotDue, Room, Word, Count, Bounds}
use Rattle.tally.specs.Tally.{tally_fits, tapes_of, is_fresh, late}
use Rattle.rules.specs.Modes.{mode_of, is_asleep, in_job, is_due}
use Rattle.rules.specs.Tasks.{count_of, bounds_fit, pairs_of}
use Rattle.rules.specs.Batches.{x_in, y_in, tape_part}
use Rattle.rules.specs.declared.state.Turn.{Turn}
use Rattle.rules.specs.declared.state.Turn.TheVariants.{Speak, Hear}
use Rattle.rules.specs.declared.state.Phase.{Phase}
use Rattle.rules.specs.declared.state.Task.{Task}
use Rattle.rules.specs.declared.state.Task.TheVariants.{Compare, Band}
use Rattle.rules.specs.declared.state.State.{State}

-- every word of a message can be read: none is above p (document 02, P3)
abbrev pub words_fit : ℕ → List ℕ → Bool
words_fit n words = every (length words) (λ i. legible n (get_or words i 0))

-- ---- what is looked at

-- 1, 5: a call for a box that is awake and in no job
abbrev pub idle_grounds : Phase → List Ground
idle_grounds mode = (Asleep when is_asleep mode) ∷ (Busy when in_job mode) ∷ []

-- 1, 6: a call for a box in a job
abbrev pub job_grounds : Phase → List Ground
job_grounds mode = (Asleep when is_asleep mode) ∷ (NoJob when not (in_job mode)) ∷ []

-- 16: a start takes 1 to 8 jobs (document 02, P9)
abbrev pub count_grounds : ℕ → List Ground
count_grounds count = (Count when not (count_fits count)) ∷ []

-- 17: a band's bounds are c1 < c2 < p (document 02, P10)
abbrev pub bound_grounds : ℕ → ℕ → ℕ → List Ground
bound_grounds n low high = (Bounds when not (bounds_fit n low high)) ∷ []

-- 11: the turn that is due
abbrev pub due_grounds : State → ℕ → Turn → List Ground
due_grounds s first turn = (NotDue when not (is_due (mode_of s) s.batch.first first turn)) ∷ []

-- 4: the lent tally is as long as at wake
abbrev pub tally_grounds : State → List ℕ → List Ground
tally_grounds s tally = (Tally when not (eqb (length tally) s.tally)) ∷ []

-- 12: the list of shares has two for each job
abbrev pub list_grounds : ℕ → List ℕ → List Ground
list_grounds count shares = (Room when not (eqb (length shares) (2 * count))) ∷ []

-- 7, 8, 15: the tape's mark, and those above it (document 02, P4)
abbrev pub mark_grounds : ℕ → List ℕ → List Ground
mark_grounds number tally =
    (Number when not (ltb number (tapes_of (length tally))))
    ∷ (Spent when not (is_fresh tally number))
    ∷ (Late when late tally number)
    ∷ []

-- 9: the two shares
abbrev pub share_grounds : ℕ → ℕ → ℕ → List Ground
share_grounds n x y = (Share when not (ltb x (modulus n)) || not (ltb y (modulus n))) ∷ []

-- the lent tapes are as long as so many tapes
abbrev pub tapes_long : State → ℕ → List ℕ → Bool
tapes_long s count tapes = eqb (length tapes) (tape_for s.n count)

-- and job i's is in order
abbrev pub tape_ordered : State → ℕ → List ℕ → ℕ → Bool
tape_ordered s first tapes i = in_order s.n s.pair s.side (first + i) (tape_part s.n tapes i)

-- 10: the lent tapes, one job's and, in a speak and a hear, all jobs'. Their joined length counts as the first job's
abbrev pub tape_grounds : State → ℕ → ℕ → List ℕ → ℕ → List Ground
tape_grounds s first count tapes i = (Tape when not (tapes_long s count tapes && tape_ordered s first tapes i)) ∷ []

abbrev pub tapes_grounds : State → List ℕ → List Ground
tapes_grounds s tapes =
    let count = count_of s.batch.task in
    (Tape when not (tapes_long s count tapes && every count (tape_ordered s s.batch.first tapes))) ∷ []

-- out has room for the round's words, incoming has just as many
abbrev pub message_fits : ℕ → ℕ → Turn → ℕ → Bool
message_fits n count (Speak round) length = leb (round_for n count round) length
message_fits n count (Hear round) length = eqb length (round_for n count round)

-- 12: work, and whether the call's other buffer fits
abbrev pub room_grounds : ℕ → ℕ → List ℕ → Bool → List Ground
room_grounds n count work fits = (Room when not (leb (work_for n count) (length work)) || not fits) ∷ []

-- 13: the incoming words
abbrev pub word_grounds : ℕ → List ℕ → List Ground
word_grounds n incoming = (Word when not (words_fit n incoming)) ∷ []

-- ---- the grounds of each call, in document 01's order

abbrev pub wake_grounds : State → ℕ → ℕ → List ℕ → List Ground
wake_grounds s n side tally =
    (Busy when not (is_asleep (mode_of s)))
    ∷ (Width when not (listed n))
    ∷ (Side when not (is_side side))
    ∷ (Tally when not (tally_fits (length tally)))
    ∷ []

-- what is asked: of comparisons the count and the list of shares, of a band the bounds. A band's one share comes with the call and has no length
abbrev pub asked_parts : State → Task → List ℕ → List ℕ → List (List Ground)
asked_parts s (Compare count) shares tally = count_grounds count ∷ tally_grounds s tally ∷ list_grounds count shares ∷ []
asked_parts s (Band low high) shares tally = bound_grounds s.n low high ∷ tally_grounds s tally ∷ []

-- one job of a start
abbrev pub one_parts : State → ℕ → ℕ → List ℕ → List ℕ → List ℕ → ℕ → List (List Ground)
one_parts s first count pairs tapes tally i =
    mark_grounds (first + i) tally
    ∷ share_grounds s.n (x_in pairs i) (y_in pairs i)
    ∷ tape_grounds s first count tapes i
    ∷ []

-- the jobs one after the other; a start has no other buffer that has to fit
abbrev pub job_parts : State → ℕ → ℕ → List ℕ → List ℕ → List ℕ → List ℕ → List (List Ground)
job_parts s first count pairs tapes work tally =
    chained count (λ i. joined (one_parts s first count pairs tapes tally i))
    ∷ room_grounds s.n count work true
    ∷ []

abbrev pub start_parts : State → ℕ → Task → List ℕ → List ℕ → List ℕ → List ℕ → List (List Ground)
start_parts s first task shares tapes work tally =
    idle_grounds (mode_of s)
    ∷ joined (asked_parts s task shares tally)
    ∷ job_parts s first (count_of task) (pairs_of s.side task shares) tapes work tally

-- what a speak and a hear have in common; the buffer is out or incoming
abbrev pub turn_parts : State → ℕ → Turn → List ℕ → List ℕ → List ℕ → List (List Ground)
turn_parts s first turn tapes work buffer =
    job_grounds (mode_of s)
    ∷ due_grounds s first turn
    ∷ tapes_grounds s tapes
    ∷ room_grounds s.n (count_of s.batch.task) work (message_fits s.n (count_of s.batch.task) turn (length buffer))
    ∷ []

abbrev pub start_grounds : State → ℕ → Task → List ℕ → List ℕ → List ℕ → List ℕ → List Ground
start_grounds s first task shares tapes work tally = joined (start_parts s first task shares tapes work tally)

abbrev pub turn_grounds : State → ℕ → Turn → List ℕ → List ℕ → List ℕ → List Ground
turn_grounds s first turn tapes work buffer = joined (turn_parts s first turn tapes work buffer)

abbrev pub speak_grounds : State → ℕ → ℕ → List ℕ → List ℕ → List ℕ → List Ground
speak_grounds s first round tapes work out = turn_grounds s first (Speak round) tapes work out

abbrev pub hear_grounds : State → ℕ → ℕ → List ℕ → List ℕ → List ℕ → List Ground
hear_grounds s first round tapes work incoming = turn_grounds s first (Hear round) tapes work incoming ++ word_grounds s.n incoming

abbrev pub drop_grounds : State → List Ground
drop_grounds s = job_grounds (mode_of s)

-- ---- the one that counts

unfoldable pub wake_ground : State → ℕ → ℕ → List ℕ → ℕ
wake_ground s n side tally = earliest_of (wake_grounds s n side tally)

unfoldable pub start_ground : State → ℕ → Task → List ℕ → List ℕ → List ℕ → List ℕ → ℕ
start_ground s first task shares tapes work tally = earliest_of (start_grounds s first task shares tapes work tally)

unfoldable pub speak_ground : State → ℕ → ℕ → List ℕ → List ℕ → List ℕ → ℕ
speak_ground s first round tapes work out = earliest_of (speak_grounds s first round tapes work out)

unfoldable pub hear_ground : State → ℕ → ℕ → List ℕ → List ℕ → List ℕ → ℕ
hear_ground s first round tapes work incoming = earliest_of (hear_grounds s first round tapes work incoming)

unfoldable pub drop_ground : State → ℕ
drop_ground s = earliest_of (drop_grounds s)
