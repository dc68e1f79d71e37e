-- The figures are those of a run: where no ground before that of room holds, only that one is left, and for a hear that of its words.
use Prim.Native.Nat.{ℕ, ◌+◌, ◌*◌, ◌<◌}
use mathlib.Core.Path.{◌≡◌, refl, sym, ap, ◌∙◌}
use mathlib.Core.Bool.{Bool, true, false, not, ◌||◌, cond}
use mathlib.Core.List.{List, [], ◌∷◌, ◌++◌}
use native.Mathlib.Nat.{one-mul}
use native.Mathlib.Omega.{arith}
use Rattle.std.proofs.Math.Bool.{or-false, or-true}
use Rattle.std.proofs.lemmas.List.{append_assoc}
use borrow.Author.Tests.{leb-true, leb-false, lt-ltb, le-ltb, eq-eqb, not-false}
use lib.Dec.{leb, ltb}
use lib.ListN.{length}
use Rattle.lists.specs.Joined.{chained}
use Rattle.lists.proofs.Joined.{length_chained, part_chained}
use Rattle.field.specs.Width.{listed}
use Rattle.shares.specs.Side.{is_side}
use Rattle.tape.specs.Layout.{tape_length}
use Rattle.tape.specs.Order.{in_order}
use Rattle.tape.specs.Plain.{plain_tape}
use Rattle.tape.proofs.Orders.{readable}
use Rattle.tape.proofs.Plains.{plain_order}
use Rattle.protocol.specs.Rounds.{at_round, word_table, round_words}
use Rattle.protocol.specs.Sizes.{count_fits, tape_for, round_for, rounds_for, work_for}
use Rattle.protocol.proofs.ByRound.{at_both}
use Rattle.refusals.specs.Numbers.{number_of}
use Rattle.refusals.specs.Grounds.{Ground, ◌when◌, earliest_of, joined}
use Rattle.refusals.specs.declared.Refusal.TheVariants.{Room}
use Rattle.refusals.proofs.Chains.{None, none, first_none, both_none}
use Rattle.rules.specs.Answers.{spoke}
use Rattle.rules.specs.Modes.{mode_of}
use Rattle.rules.specs.Tasks.{count_of, pairs_of}
use Rattle.rules.specs.Batches.{tape_part}
use Rattle.rules.specs.Grounds.{idle_grounds, asked_parts, one_parts, job_grounds, due_grounds, tapes_grounds, room_grounds, message_fits, word_grounds, start_grounds, start_ground, speak_ground, hear_ground}
use Rattle.rules.specs.Calls.{speak_rule}
use Rattle.rules.specs.AnyCall.{start, ground_of}
use Rattle.rules.specs.declared.state.Task.{Task}
use Rattle.rules.specs.declared.state.Task.TheVariants.{Compare, Band}
use Rattle.rules.specs.declared.state.State.{State}
use Rattle.rules.specs.declared.state.Turn.{Turn}
use Rattle.rules.specs.declared.state.Turn.TheVariants.{Speak, Hear}
use Rattle.rules.proofs.Ranges.{awake_listed}
use Rattle.rules.proofs.Passed.{TurnPassed, start_passed, speak_passed, hear_passed, turn_due}
use Rattle.needs.specs.Figures.{Figures, figures_for, needs_ground, needs_rule}
use Rattle.needs.specs.AsRun.{has_number, before, Reached, tape_needed, round_needed, work_needed, plain_tapes, AsRun}

-- ---- what so many jobs need

-- a round's figure stands at its number
rounds_at : (n count round : ℕ) → at_round round (rounds_for n count) 0 ≡ round_for n count round
unfolding round_words
rounds_at n count round =
    at_both (λ (v w : ℕ). v ≡ count * w) (rounds_for n count) (word_table n) 0 0
    (refl, (refl, (refl, (refl, (refl, tt))))) (omega arith) round

module _ (n count : ℕ) (width : listed n ≡ true) (fits : count_fits count ≡ true) where
  figures_are : needs_rule n count ≡ figures_for n count
  unfolding needs_ground needs_rule
  figures_are = rw (width, fits) refl

  tape_is : tape_needed n count ≡ tape_for n count
  tape_is = ap (λ (f : Figures). f.tape) figures_are

  round_is : (round : ℕ) → round_needed n count round ≡ round_for n count round
  round_is round = ap (λ (f : Figures). at_round round f.rounds 0) figures_are ∙ rounds_at n count round

  work_is : work_needed n count ≡ work_for n count
  work_is = ap (λ (f : Figures). f.work) figures_are

-- ---- the plain tapes of so many numbers

module _ (n pair side first : ℕ) (width : listed n ≡ true) (box : is_side side ≡ true) where
  ordered : (i : ℕ) → in_order n pair side (first + i) (plain_tape n pair side (first + i)) ≡ true
  ordered i = plain_order n pair side (first + i) width box

  long : (i : ℕ) → length (plain_tape n pair side (first + i)) ≡ tape_length n
  long i = (readable n pair side (first + i) _ (ordered i)).long

  plain_long : (count : ℕ) → length (plain_tapes n pair side first count) ≡ tape_for n count
  plain_long count = length_chained count (tape_length n) _ (λ i less. long i)

  plain_fit : (count i : ℕ) → i < count → in_order n pair side (first + i) (tape_part n (plain_tapes n pair side first count) i) ≡ true
  plain_fit count i less = rw (part_chained count (tape_length n) _ i less (λ k l. long k)) (ordered i)

-- ---- the ground of room

not_leb : (a b : ℕ) → not (leb a b) ≡ ltb b a
not_leb a b = go (leb a b) refl
  where
    go : (t : Bool) → leb a b ≡ t → not t ≡ ltb b a
    go true e = sym (le-ltb b a (leb-true a b e))
    go false e = sym (lt-ltb b a (leb-false a b e))

-- what is left of a call that comes to it: that ground, then what comes later
room : (n count : ℕ) (work : List ℕ) (fits : Bool) (first later : List Ground) → listed n ≡ true → count_fits count ≡ true → earliest_of first ≡ 0
    → earliest_of (first ++ (room_grounds n count work fits ++ later))
    ≡ cond (ltb (length work) (work_needed n count) || not fits) 12 (earliest_of later)
room n count work fits first later width few reached =
    first_none first (room_grounds n count work fits ++ later) reached
    ∙ rw (not_leb (work_for n count) (length work), work_is n count width few) refl

-- a ground is in a list of which it is the last, and before it are the others
module _ (g : Ground) where
  has_last : (gs : List Ground) → has_number (number_of g.refusal) (gs ++ (g ∷ [])) ≡ true
  has_last [] = rw (eq-eqb (number_of g.refusal) (number_of g.refusal) refl) refl
  has_last (h ∷ gs) = rw (has_last gs) (or-true _)

  before_last : (gs : List Ground) → before (number_of g.refusal) (gs ++ (g ∷ [])) ≡ gs
  before_last [] = refl
  before_last (h ∷ gs) = rw (has_last gs, before_last gs) refl

-- ---- a start

-- where what is asked has passed, there are 1 to 8 comparisons
few : (s : State) (task : Task) (shares tally : List ℕ) → None (joined (asked_parts s task shares tally)) → count_fits (count_of task) ≡ true
unfolding count_fits
few s (Compare count) shares tally c = not-false (count_fits count) c.0
few s (Band low high) shares tally c = refl

module _ (s : State) (first : ℕ) (task : Task) (shares tapes work tally : List ℕ) where
  abbrev asked : List Ground
  asked = joined (asked_parts s task shares tally)

  abbrev jobs : List Ground
  jobs = chained (count_of task) (λ i. joined (one_parts s first (count_of task) (pairs_of s.side task shares) tapes tally i))

  -- its last ground, and those before it
  abbrev last : Ground
  last = Room when not (leb (work_for s.n (count_of task)) (length work)) || not true

  abbrev earlier : List Ground
  earlier = idle_grounds (mode_of s) ++ (asked ++ jobs)

  parted : start_grounds s first task shares tapes work tally ≡ earlier ++ (last ∷ [])
  parted = ap (λ gs. idle_grounds (mode_of s) ++ gs) (sym (append_assoc asked jobs (last ∷ [])))

  start_left : Reached 12 s (start first task shares tapes work tally)
      → ground_of s (start first task shares tapes work tally) ≡ cond (ltb (length work) (work_needed s.n (count_of task))) 12 0
  unfolding start_ground
  start_left reached =
      let come : earliest_of earlier ≡ 0 = ap earliest_of (sym (before_last last earlier) ∙ ap (before 12) (sym parted)) ∙ reached in
      let idle = both_none (idle_grounds (mode_of s)) (asked ++ jobs) come in
      let width = awake_listed s (none (idle_grounds (mode_of s)) idle.0).0 in
      let fits = few s task shares tally (none asked (both_none asked jobs idle.1).0) in
      ap earliest_of parted
      ∙ (room s.n (count_of task) work true earlier [] width fits come ∙ rw (or-false (ltb (length work) (work_needed s.n (count_of task)))) refl)

-- ---- a speak and a hear

module _ (s : State) (first : ℕ) (turn : Turn) (tapes : List ℕ) where
  abbrev before_room : List Ground
  before_room = job_grounds (mode_of s) ++ (due_grounds s first turn ++ tapes_grounds s tapes)

  turn_come : earliest_of before_room ≡ 0 → TurnPassed s first turn tapes
  turn_come e =
      let job = both_none (job_grounds (mode_of s)) (due_grounds s first turn ++ tapes_grounds s tapes) e in
      let due = both_none (due_grounds s first turn) (tapes_grounds s tapes) job.1 in
      turn_due s first turn tapes job.0 due.0 due.1

  turn_left : (work buffer : List ℕ) (later : List Ground) → earliest_of before_room ≡ 0
      → earliest_of (before_room ++ (room_grounds s.n (count_of s.batch.task) work (message_fits s.n (count_of s.batch.task) turn (length buffer)) ++ later))
      ≡ cond (ltb (length work) (work_needed s.n (count_of s.batch.task)) || not (message_fits s.n (count_of s.batch.task) turn (length buffer))) 12
      (earliest_of later)
  turn_left work buffer later e =
      let t = turn_come e in
      room s.n (count_of s.batch.task) work (message_fits s.n (count_of s.batch.task) turn (length buffer)) before_room later t.sound.width t.range.counted e

  turn_round : (round : ℕ) → earliest_of before_room ≡ 0 → round_needed s.n (count_of s.batch.task) round ≡ round_for s.n (count_of s.batch.task) round
  turn_round round e =
      let t = turn_come e in
      round_is s.n (count_of s.batch.task) t.sound.width t.range.counted round

-- ---- the statement

pub as_run : AsRun
unfolding start_ground speak_ground hear_ground speak_rule count_fits needs_ground needs_rule
as_run =
    record {
      start_tapes = λ s first task shares tapes work tally e.
          let p = start_passed s first task shares tapes work tally e in
          p.long ∙ sym (tape_is s.n (count_of task) (awake_listed s p.awake) p.counted);
      speak_tapes = λ s first round tapes work out e.
          let t = (speak_passed s first round tapes work out e).turn in
          t.long ∙ sym (tape_is s.n (count_of s.batch.task) t.sound.width t.range.counted);
      hear_tapes = λ s first round tapes work incoming e.
          let t = (hear_passed s first round tapes work incoming e).turn in
          t.long ∙ sym (tape_is s.n (count_of s.batch.task) t.sound.width t.range.counted);
      tapes_fit = λ n pair side first count width box fits.
          (plain_long n pair side first width box count ∙ sym (tape_is n count width fits), plain_fit n pair side first width box count);
      spoken = λ s first round tapes work out e.
          let t = (speak_passed s first round tapes work out e).turn in
          rw e (ap spoke (sym (round_is s.n (count_of s.batch.task) t.sound.width t.range.counted round)));
      start_room = start_left;
      speak_room = λ s first round tapes work out reached.
          turn_left s first (Speak round) tapes work out [] reached
          ∙ rw (not_leb (round_for s.n (count_of s.batch.task) round) (length out), turn_round s first (Speak round) tapes round reached) refl;
      hear_room = λ s first round tapes work incoming reached.
          turn_left s first (Hear round) tapes work incoming (word_grounds s.n incoming) reached
          ∙ rw (turn_round s first (Hear round) tapes round reached) refl;
      several = λ n count width fits. rw (width, fits) (simp one-mul);
      order = λ n count. refl;
    }
