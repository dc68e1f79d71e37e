-- What jobs must be lent so that none of their calls is refused: at the start what it asks for, in each round room in out and a message of the right
-- length whose words can be read. And where none is refused they were lent it.
use Prim.Native.Nat.{ℕ, zero, suc, ◌<◌, ◌≤◌}
use mathlib.Core.Path.{◌≡◌, refl, ap, ◌∙◌}
use mathlib.Core.Bool.{true}
use native.Mathlib.Omega.{arith}
use lib.ListN.{length}
use borrow.Author.Tests.{le-leb}
use Rattle.protocol.specs.Rounds.{last_round}
use Rattle.protocol.specs.Sizes.{round_for, work_for}
use Rattle.rules.specs.Tasks.{count_of}
use Rattle.rules.specs.Modes.{round_of, round_fits, mode_of, is_asleep}
use Rattle.rules.specs.Grounds.{words_fit}
use Rattle.rules.specs.Calls.{start_rule}
use Rattle.rules.specs.OneByOne.{Left, Lent}
use Rattle.rules.specs.declared.state.Turn.{Turn}
use Rattle.rules.specs.declared.state.Turn.TheVariants.{Speak, Hear}
use Rattle.rules.specs.declared.state.Phase.TheVariants.{Job}
use Rattle.rules.proofs.Ranges.{awake_range, turned_mode}
use Rattle.rules.proofs.Passed.{StartPassed, start_passed, speak_passed, hear_passed}
use Rattle.rules.proofs.Goes.{speak_goes, hear_goes}
use Rattle.rules.proofs.Spoken.{joined_after_length}
use Rattle.rules.proofs.Moves.{started_job}
use Rattle.rules.proofs.Runs.{in_jobs, work_after, start_at, Clear}

round_lem : (r : ℕ) → r < last_round → round_fits (suc r) ≡ true
round_lem r less = rw (le-leb 1 (suc r) (omega arith), le-leb (suc r) last_round (omega arith)) refl

module _ (l : Left) (j : Lent) where
  pub record Fits : Type 0 where
    pub start : start_at l j ≡ 0
    pub roomy : (r : ℕ) → r < last_round → round_for l.state.n (count_of j.task) (suc r) ≤ length (j.out (suc r))
    pub long : (r : ℕ) → r < last_round → length (j.incoming (suc r)) ≡ round_for l.state.n (count_of j.task) (suc r)
    pub legible : (r : ℕ) → r < last_round → words_fit l.state.n (j.incoming (suc r)) ≡ true

  pub begun : start_at l j ≡ 0 → StartPassed l.state j.first j.task j.shares j.tapes l.work l.tally
  begun none = start_passed l.state j.first j.task j.shares j.tapes l.work l.tally none

  pub work_long : (r : ℕ) → length (work_after l j r) ≡ length l.work
  unfolding work_after
  work_long zero = refl
  work_long (suc r) =
      joined_after_length (in_jobs l j (Hear (suc r))) j.tapes (work_after l j r) (suc r) (j.incoming (suc r)) ∙ work_long r

  pub work_room : start_at l j ≡ 0 → (r : ℕ) → work_for l.state.n (count_of j.task) ≤ length (work_after l j r)
  work_room none r = rw (work_long r) (begun none).room

  -- in each round the turn that is due
  job_mode : start_at l j ≡ 0 → (turn : Turn) → round_fits (round_of turn) ≡ true → mode_of (in_jobs l j turn) ≡ Job turn
  unfolding start_rule
  job_mode none turn fits =
      let begun : mode_of (in_jobs l j (Speak 1)) ≡ Job (Speak 1) =
      rw none at (started_job l.state j.first j.task j.shares j.tapes l.work l.tally none) in
      turned_mode (in_jobs l j (Speak 1)) turn fits (awake_range (in_jobs l j (Speak 1)) (ap is_asleep begun)) refl

  pub fits_clear : Fits → Clear l j
  fits_clear f =
      let p = begun f.start in
      record {
        start = f.start;
        speak = λ r less.
            speak_goes (in_jobs l j (Speak (suc r))) j.tapes (work_after l j r) p.long p.ordered (work_room f.start r) (suc r) (j.out (suc r))
            (job_mode f.start (Speak (suc r)) (round_lem r less)) (f.roomy r less);
        hear = λ r less.
            hear_goes (in_jobs l j (Hear (suc r))) j.tapes (work_after l j r) p.long p.ordered (work_room f.start r) (suc r) (j.incoming (suc r))
            (job_mode f.start (Hear (suc r)) (round_lem r less)) (f.long r less) (f.legible r less);
      }

  pub clear_fits : Clear l j → Fits
  clear_fits c =
      record {
        start = c.start;
        roomy = λ r less.
            (speak_passed (in_jobs l j (Speak (suc r))) j.first (suc r) j.tapes (work_after l j r) (j.out (suc r)) (c.speak r less)).out_room;
        long = λ r less.
            (hear_passed (in_jobs l j (Hear (suc r))) j.first (suc r) j.tapes (work_after l j r) (j.incoming (suc r)) (c.hear r less)).long;
        legible = λ r less.
            (hear_passed (in_jobs l j (Hear (suc r))) j.first (suc r) j.tapes (work_after l j r) (j.incoming (suc r)) (c.hear r less)).words;
      }
