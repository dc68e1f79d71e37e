-- What a call that is not refused was given: of every ground in the chain, that it does not hold.
use Prim.Native.Nat.{ℕ, ◌+◌, ◌*◌, ◌<◌, ◌≤◌}
use mathlib.Core.Path.{◌≡◌, refl}
use mathlib.Core.Bool.{Bool, true, false, not, ◌&&◌, ◌||◌, true≢false}
use mathlib.Core.List.{List}
use native.Mathlib.Omega.{arith}
use lib.Dec.{eqb, leb, ltb}
use lib.ListN.{length, get_or, get_or-eq_default}
use borrow.Author.Tests.{ltb-true, ltb-false, leb-true, eqb-true, not-false}
use Rattle.lists.specs.Every.{every}
use Rattle.lists.proofs.Tests.{and_left, and_right}
use Rattle.lists.proofs.Every.{every_at}
use Rattle.field.specs.Width.{listed, modulus}
use Rattle.shares.specs.Side.{is_side}
use Rattle.shares.specs.Reading.{legible}
use Rattle.tape.specs.Order.{in_order}
use Rattle.protocol.specs.Sizes.{count_fits, tape_for, round_for, work_for}
use Rattle.refusals.specs.Grounds.{earliest_of, joined}
use Rattle.refusals.proofs.Chains.{None, Nones, none, none_earliest, both_none, nones}
use Rattle.tally.specs.Tally.{tally_fits, tapes_of, is_fresh, late}
use Rattle.rules.specs.Tasks.{count_of, bounds_fit, task_fits, pairs_of}
use Rattle.rules.specs.Modes.{mode_of, is_asleep, in_job, is_due}
use Rattle.rules.specs.Batches.{x_in, y_in, tape_part}
use Rattle.rules.specs.Grounds.{job_grounds, due_grounds, tapes_long, tape_ordered, tapes_grounds, message_fits, room_grounds, word_grounds, words_fit, wake_grounds, asked_parts, one_parts, start_parts, turn_parts, turn_grounds, wake_ground, start_ground, speak_ground, hear_ground}
use Rattle.rules.specs.Moves.{Asked}
use Rattle.rules.specs.declared.state.Task.{Task}
use Rattle.rules.specs.declared.state.Task.TheVariants.{Compare, Band}
use Rattle.rules.specs.declared.state.Turn.{Turn}
use Rattle.rules.specs.declared.state.Turn.TheVariants.{Speak, Hear}
use Rattle.rules.specs.declared.state.State.{State}
use Rattle.rules.proofs.Tasks.{counted, bounds_in}
use Rattle.rules.proofs.Batches.{count_most}
use Rattle.rules.proofs.Chained.{chained_none}
use Rattle.rules.proofs.Ranges.{Ranged, ranged, awake_range, Due, due_job, JobRange, job_range}

both_true : (a b : Bool) → not a || not b ≡ false → (a ≡ true) × (b ≡ true)
both_true true true e = (refl, refl)
both_true true false e = absurd (true≢false e)
both_true false b e = absurd (true≢false e)

-- work has its room, and the call's other buffer fits
room_passed : (n count : ℕ) (work : List ℕ) (fits : Bool) → None (room_grounds n count work fits) → (work_for n count ≤ length work) × (fits ≡ true)
room_passed n count work fits c =
    let both = both_true (leb (work_for n count) (length work)) fits c.0 in
    (leb-true (work_for n count) (length work) both.0, both.1)

-- ---- wake

pub record WakePassed (s : State) (n side : ℕ) (tally : List ℕ) : Type 0 where
  pub asleep : is_asleep (mode_of s) ≡ true
  pub width : listed n ≡ true
  pub sided : is_side side ≡ true
  pub tallied : tally_fits (length tally) ≡ true

pub wake_passed : (s : State) (n side : ℕ) (tally : List ℕ) → wake_ground s n side tally ≡ 0 → WakePassed s n side tally
unfolding wake_ground
wake_passed s n side tally e =
    let c = none (wake_grounds s n side tally) e in
    record {
      asleep = not-false (is_asleep (mode_of s)) c.0;
      width = not-false (listed n) c.1.0;
      sided = not-false (is_side side) c.1.1.0;
      tallied = not-false (tally_fits (length tally)) c.1.1.1.0;
    }

pub wake_tally : (s : State) (n side : ℕ) (tally : List ℕ) → wake_ground s n side tally ≡ 0 → tally_fits (length tally) ≡ true
wake_tally s n side tally e = (wake_passed s n side tally e).tallied

-- ---- start

-- what is asked of one job
record OnePassed (s : State) (first count : ℕ) (shares tapes tally : List ℕ) (i : ℕ) : Type 0 where
  numbered : first + i < tapes_of (length tally)
  fresh : is_fresh tally (first + i) ≡ true
  in_time : late tally (first + i) ≡ false
  x_fits : x_in shares i < modulus s.n
  y_fits : y_in shares i < modulus s.n
  long : length tapes ≡ tape_for s.n count
  ordered : in_order s.n s.pair s.side (first + i) (tape_part s.n tapes i) ≡ true

one_passed : (s : State) (first count : ℕ) (shares tapes tally : List ℕ) (i : ℕ) → Nones (one_parts s first count shares tapes tally i)
    → OnePassed s first count shares tapes tally i
one_passed s first count shares tapes tally i c =
    let both = both_true (ltb (x_in shares i) (modulus s.n)) (ltb (y_in shares i) (modulus s.n)) c.1.0.0 in
    let tape = not-false (tapes_long s count tapes && tape_ordered s first tapes i) c.1.1.0.0 in
    record {
      numbered = ltb-true (first + i) (tapes_of (length tally)) (not-false (ltb (first + i) (tapes_of (length tally))) c.0.0);
      fresh = not-false (is_fresh tally (first + i)) c.0.1.0;
      in_time = c.0.1.1.0;
      x_fits = ltb-true (x_in shares i) (modulus s.n) both.0;
      y_fits = ltb-true (y_in shares i) (modulus s.n) both.1;
      long = eqb-true (length tapes) (tape_for s.n count) (and_left (tapes_long s count tapes) (tape_ordered s first tapes i) tape);
      ordered = and_right (tapes_long s count tapes) (tape_ordered s first tapes i) tape;
    }

-- what is asked, and the tally's length
record AskedPassed (s : State) (task : Task) (shares tally : List ℕ) : Type 0 where
  fits : task_fits s.n task ≡ true
  same_tally : length tally ≡ s.tally
  asked : Asked s.n task shares

asked_passed : (s : State) (task : Task) (shares tally : List ℕ) → Nones (asked_parts s task shares tally) → AskedPassed s task shares tally
asked_passed s (Compare count) shares tally c =
    record {
      fits = not-false (count_fits count) c.0.0;
      same_tally = eqb-true (length tally) s.tally (not-false (eqb (length tally) s.tally) c.1.0.0);
      asked = eqb-true (length shares) (2 * count) (not-false (eqb (length shares) (2 * count)) c.1.1.0.0);
    }
asked_passed s (Band low high) shares tally c =
    let fits = not-false (bounds_fit s.n low high) c.0.0 in
    record {
      fits = fits;
      same_tally = eqb-true (length tally) s.tally (not-false (eqb (length tally) s.tally) c.1.0.0);
      asked = bounds_in s.n low high fits;
    }

pub record StartPassed (s : State) (first : ℕ) (task : Task) (shares tapes work tally : List ℕ) : Type 0 where
  pub awake : is_asleep (mode_of s) ≡ false
  pub idle : in_job (mode_of s) ≡ false
  pub fits : task_fits s.n task ≡ true
  pub counted : count_fits (count_of task) ≡ true
  pub same_tally : length tally ≡ s.tally
  pub asked : Asked s.n task shares
  pub numbered : (i : ℕ) → i < count_of task → first + i < tapes_of (length tally)
  pub fresh : (i : ℕ) → i < count_of task → is_fresh tally (first + i) ≡ true
  pub in_time : (i : ℕ) → i < count_of task → late tally (first + i) ≡ false
  pub x_fits : (i : ℕ) → i < count_of task → x_in (pairs_of s.side task shares) i < modulus s.n
  pub y_fits : (i : ℕ) → i < count_of task → y_in (pairs_of s.side task shares) i < modulus s.n
  pub long : length tapes ≡ tape_for s.n (count_of task)
  pub ordered : (i : ℕ) → i < count_of task → in_order s.n s.pair s.side (first + i) (tape_part s.n tapes i) ≡ true
  pub room : work_for s.n (count_of task) ≤ length work

pub start_passed : (s : State) (first : ℕ) (task : Task) (shares tapes work tally : List ℕ) → start_ground s first task shares tapes work tally ≡ 0
    → StartPassed s first task shares tapes work tally
unfolding start_ground
start_passed s first task shares tapes work tally e =
    let c = nones (start_parts s first task shares tapes work tally) e in
    let a = asked_passed s task shares tally (nones (asked_parts s task shares tally) (none_earliest _ c.1.0)) in
    let enough = counted s.n task a.fits in
    let count = count_of task in
    let pairs = pairs_of s.side task shares in
    let jobs = chained_none count (λ i. joined (one_parts s first count pairs tapes tally i)) (none_earliest _ c.1.1.0) in
    let one : (i : ℕ) → i < count → OnePassed s first count pairs tapes tally i =
    λ i less. one_passed s first count pairs tapes tally i (nones (one_parts s first count pairs tapes tally i) (jobs i less)) in
    record {
      awake = c.0.0;
      idle = c.0.1.0;
      fits = a.fits;
      counted = enough;
      same_tally = a.same_tally;
      asked = a.asked;
      numbered = λ i less. (one i less).numbered;
      fresh = λ i less. (one i less).fresh;
      in_time = λ i less. (one i less).in_time;
      x_fits = λ i less. (one i less).x_fits;
      y_fits = λ i less. (one i less).y_fits;
      long = (one 0 (count_most count enough).0).long;
      ordered = λ i less. (one i less).ordered;
      room = (room_passed s.n count work true c.1.1.1.0).0;
    }

-- ---- speak and hear

-- what both were given: the turn is due, and the state is in jobs in range
pub record TurnPassed (s : State) (first : ℕ) (turn : Turn) (tapes : List ℕ) : Type 0 where
  pub awake : is_asleep (mode_of s) ≡ false
  pub sound : Ranged s
  pub due : Due s first turn
  pub range : JobRange s turn
  pub long : length tapes ≡ tape_for s.n (count_of s.batch.task)
  pub ordered : (i : ℕ) → i < count_of s.batch.task → in_order s.n s.pair s.side (s.batch.first + i) (tape_part s.n tapes i) ≡ true

turn_of : (s : State) (first : ℕ) (turn : Turn) (tapes : List ℕ) → None (job_grounds (mode_of s)) → None (due_grounds s first turn)
    → None (tapes_grounds s tapes) → TurnPassed s first turn tapes
turn_of s first turn tapes job is_next ordered =
    let awake = job.0 in
    let due = due_job s first turn awake (not-false (is_due (mode_of s) s.batch.first first turn) is_next.0) in
    let count = (count_of s.batch.task) in
    let each = tape_ordered s s.batch.first tapes in
    let both = not-false (tapes_long s count tapes && every count each) ordered.0 in
    record {
      awake = awake;
      sound = ranged s (awake_range s awake);
      due = due;
      range = job_range s awake due.job;
      long = eqb-true (length tapes) (tape_for s.n count) (and_left (tapes_long s count tapes) (every count each) both);
      ordered = every_at count each (and_right (tapes_long s count tapes) (every count each) both);
    }

-- from the first three of the lists, where the room is not looked at yet
pub turn_due : (s : State) (first : ℕ) (turn : Turn) (tapes : List ℕ) → earliest_of (job_grounds (mode_of s)) ≡ 0
    → earliest_of (due_grounds s first turn) ≡ 0 → earliest_of (tapes_grounds s tapes) ≡ 0 → TurnPassed s first turn tapes
turn_due s first turn tapes job is_next ordered =
    turn_of s first turn tapes (none (job_grounds (mode_of s)) job) (none (due_grounds s first turn) is_next) (none (tapes_grounds s tapes) ordered)

pub turn_passed : (s : State) (first : ℕ) (turn : Turn) (tapes work buffer : List ℕ) → earliest_of (turn_grounds s first turn tapes work buffer) ≡ 0
    → TurnPassed s first turn tapes × ((work_for s.n (count_of s.batch.task) ≤ length work) × (message_fits s.n (count_of s.batch.task) turn (length buffer) ≡ true))
turn_passed s first turn tapes work buffer e =
    let c = nones (turn_parts s first turn tapes work buffer) e in
    let count = count_of s.batch.task in
    (turn_of s first turn tapes c.0 c.1.0 c.1.1.0, room_passed s.n count work (message_fits s.n count turn (length buffer)) c.1.1.1.0)

pub record SpeakPassed (s : State) (first round : ℕ) (tapes work out : List ℕ) : Type 0 where
  pub turn : TurnPassed s first (Speak round) tapes
  pub room : work_for s.n (count_of s.batch.task) ≤ length work
  pub out_room : round_for s.n (count_of s.batch.task) round ≤ length out

pub speak_passed : (s : State) (first round : ℕ) (tapes work out : List ℕ) → speak_ground s first round tapes work out ≡ 0
    → SpeakPassed s first round tapes work out
unfolding speak_ground
speak_passed s first round tapes work out e =
    let t = turn_passed s first (Speak round) tapes work out e in
    record { turn = t.0; room = t.1.0; out_room = leb-true (round_for s.n (count_of s.batch.task) round) (length out) t.1.1 }

pub record HearPassed (s : State) (first round : ℕ) (tapes work incoming : List ℕ) : Type 0 where
  pub turn : TurnPassed s first (Hear round) tapes
  pub room : work_for s.n (count_of s.batch.task) ≤ length work
  pub long : length incoming ≡ round_for s.n (count_of s.batch.task) round
  pub words : words_fit s.n incoming ≡ true

pub hear_passed : (s : State) (first round : ℕ) (tapes work incoming : List ℕ) → hear_ground s first round tapes work incoming ≡ 0
    → HearPassed s first round tapes work incoming
unfolding hear_ground
hear_passed s first round tapes work incoming e =
    let c = both_none (turn_grounds s first (Hear round) tapes work incoming) (word_grounds s.n incoming) e in
    let t = turn_passed s first (Hear round) tapes work incoming c.0 in
    record {
      turn = t.0;
      room = t.1.0;
      long = eqb-true (length incoming) (round_for s.n (count_of s.batch.task) round) t.1.1;
      words = not-false (words_fit s.n incoming) (none (word_grounds s.n incoming) c.1).0;
    }

-- a word past the end reads as 0
pub words_most : (n : ℕ) (words : List ℕ) → words_fit n words ≡ true → (i : ℕ) → get_or words i 0 ≤ modulus n
unfolding legible
words_most n words e i = go (ltb i (length words)) refl
  where
    go : (t : Bool) → ltb i (length words) ≡ t → get_or words i 0 ≤ modulus n
    go true less =
        leb-true (get_or words i 0) (modulus n)
        (every_at (length words) (λ k. legible n (get_or words k 0)) e i (ltb-true i (length words) less))
    go false past = rw (get_or-eq_default words 0 (ltb-false i (length words) past)) (omega arith)
