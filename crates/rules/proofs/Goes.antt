-- What lets a call go: where all that it is given is as it must be, no ground of refusal holds. The other way round of Passed.
use Prim.Native.Nat.{ℕ, ◌+◌, ◌*◌, ◌<◌, ◌≤◌}
use mathlib.Core.Path.{◌≡◌, refl, ◌∙◌}
use mathlib.Core.Bool.{true}
use mathlib.Core.List.{List, [], ◌∷◌}
use lib.ListN.{length}
use borrow.Author.Tests.{eq-eqb, lt-ltb, le-leb}
use Rattle.lists.proofs.Every.{every_intro}
use Rattle.lists.specs.Joined.{chained}
use Rattle.field.specs.Width.{modulus}
use Rattle.protocol.specs.Sizes.{tape_for, round_for, work_for}
use Rattle.refusals.specs.Grounds.{earliest_of, joined}
use Rattle.refusals.proofs.Chains.{first_none}
use Rattle.tally.specs.Tally.{tapes_of}
use Rattle.rules.specs.Tasks.{count_of, task_fits, pairs_of}
use Rattle.rules.specs.Modes.{mode_of, same_turn}
use Rattle.rules.specs.Batches.{x_in, y_in}
use Rattle.rules.specs.Grounds.{words_fit, tape_ordered, message_fits, room_grounds, word_grounds, asked_parts, one_parts, turn_grounds, start_ground, speak_ground, hear_ground}
use Rattle.rules.specs.Moves.{Asked}
use Rattle.rules.specs.declared.state.Task.{Task}
use Rattle.rules.specs.declared.state.Task.TheVariants.{Compare, Band}
use Rattle.rules.specs.declared.state.Turn.{Turn}
use Rattle.rules.specs.declared.state.Turn.TheVariants.{Speak, Hear}
use Rattle.rules.specs.declared.state.Phase.TheVariants.{Job}
use Rattle.rules.specs.declared.state.State.{State}
use Rattle.rules.proofs.Chained.{none_chained}
use Rattle.rules.proofs.Passed.{StartPassed}

-- ---- start

asked_goes : (s : State) (task : Task) (shares tally : List ℕ) → task_fits s.n task ≡ true → length tally ≡ s.tally → Asked s.n task shares
    → earliest_of (joined (asked_parts s task shares tally)) ≡ 0
asked_goes s (Compare count) shares tally fits same asked =
    rw (fits, eq-eqb (length tally) s.tally same, eq-eqb (length shares) (2 * count) asked) refl
asked_goes s (Band low high) shares tally fits same asked = rw (fits, eq-eqb (length tally) s.tally same) refl

module _ (s : State) (first : ℕ) (task : Task) (shares tapes work tally : List ℕ) (p : StartPassed s first task shares tapes work tally) where
  abbrev count : ℕ
  count = count_of task

  abbrev pairs : List ℕ
  pairs = pairs_of s.side task shares

  one_goes : (i : ℕ) → i < count → earliest_of (joined (one_parts s first count pairs tapes tally i)) ≡ 0
  one_goes i less =
      rw (
        lt-ltb (first + i) (tapes_of (length tally)) (p.numbered i less),
        p.fresh i less,
        p.in_time i less,
        lt-ltb (x_in pairs i) (modulus s.n) (p.x_fits i less),
        lt-ltb (y_in pairs i) (modulus s.n) (p.y_fits i less),
        eq-eqb (length tapes) (tape_for s.n count) p.long,
        p.ordered i less,
      )
      refl

  pub start_goes : start_ground s first task shares tapes work tally ≡ 0
  unfolding start_ground
  start_goes =
      let one = λ (i : ℕ). joined (one_parts s first count pairs tapes tally i) in
      let asked = joined (asked_parts s task shares tally) in
      rw (p.awake, p.idle)
      (first_none asked _ (asked_goes s task shares tally p.fits p.same_tally p.asked)
      ∙ first_none (chained count one) (joined (room_grounds s.n count work true ∷ [])) (none_chained count one one_goes)
      ∙ rw (le-leb (work_for s.n count) (length work) p.room) refl)

-- ---- speak and hear, in jobs with that turn due

same_turn_lem : (turn : Turn) → same_turn turn turn ≡ true
same_turn_lem (Speak round) = eq-eqb round round refl
same_turn_lem (Hear round) = eq-eqb round round refl

module _ (s : State) (tapes work : List ℕ) (long : length tapes ≡ tape_for s.n (count_of s.batch.task))
    (ordered : (i : ℕ) → i < count_of s.batch.task → tape_ordered s s.batch.first tapes i ≡ true) (room : work_for s.n (count_of s.batch.task) ≤ length work) where
  -- what they have in common
  turn_goes : (turn : Turn) (buffer : List ℕ) → mode_of s ≡ Job turn → message_fits s.n (count_of s.batch.task) turn (length buffer) ≡ true
      → earliest_of (turn_grounds s s.batch.first turn tapes work buffer) ≡ 0
  turn_goes turn buffer job fits =
      rw (
        job,
        eq-eqb s.batch.first s.batch.first refl,
        same_turn_lem turn,
        eq-eqb (length tapes) (tape_for s.n (count_of s.batch.task)) long,
        every_intro (count_of s.batch.task) (tape_ordered s s.batch.first tapes) ordered,
        le-leb (work_for s.n (count_of s.batch.task)) (length work) room,
        fits,
      )
      refl

  pub speak_goes : (round : ℕ) (out : List ℕ) → mode_of s ≡ Job (Speak round) → round_for s.n (count_of s.batch.task) round ≤ length out
      → speak_ground s s.batch.first round tapes work out ≡ 0
  unfolding speak_ground
  speak_goes round out job fits = turn_goes (Speak round) out job (le-leb (round_for s.n (count_of s.batch.task) round) (length out) fits)

  pub hear_goes : (round : ℕ) (incoming : List ℕ) → mode_of s ≡ Job (Hear round) → length incoming ≡ round_for s.n (count_of s.batch.task) round
      → words_fit s.n incoming ≡ true → hear_ground s s.batch.first round tapes work incoming ≡ 0
  unfolding hear_ground
  hear_goes round incoming job size fits =
      first_none (turn_grounds s s.batch.first (Hear round) tapes work incoming) (word_grounds s.n incoming)
      (turn_goes (Hear round) incoming job (eq-eqb (length incoming) (round_for s.n (count_of s.batch.task) round) size))
      ∙ rw fits refl
