-- What the calls of a start's jobs come to, one after the other, where none is refused: the state and work that each finds.
use Prim.Native.Nat.{ℕ, zero, suc, ◌<◌}
use mathlib.Core.Path.{◌≡◌, refl}
use mathlib.Core.Bool.{false, true≢false}
use mathlib.Core.List.{List}
use native.Mathlib.Numerals.{add-one}
use native.Mathlib.Omega.{arith}
use lib.Seq.{sets}
use borrow.Author.Tests.{eq-eqb, ne_eqb}
use Rattle.protocol.specs.Rounds.{earlier_rounds, last_round}
use Rattle.protocol.specs.Sizes.{round_for}
use Rattle.tally.specs.Tally.{first_marks}
use Rattle.rules.specs.Tasks.{count_of, pairs_of}
use Rattle.rules.specs.Answers.{spoke, finished}
use Rattle.rules.specs.Modes.{in_phase}
use Rattle.rules.specs.Batches.{no_batch, batch_of, joined_message, joined_after, answer_shares}
use Rattle.rules.specs.Grounds.{start_ground, speak_ground, hear_ground}
use Rattle.rules.specs.Calls.{Result, outcome, unless, start_rule, speak_rule, heard_after, hear_rule}
use Rattle.rules.specs.AnyCall.{start, speak, hear, is_refused}
use Rattle.rules.specs.OneByOne.{Left, Lent, speak_of, hear_of, after_rounds, whole, next_hear, Goes}
use Rattle.rules.specs.declared.state.Turn.{Turn}
use Rattle.rules.specs.declared.state.Turn.TheVariants.{Speak, Hear}
use Rattle.rules.specs.declared.state.Phase.TheVariants.{Idle, Job}
use Rattle.rules.specs.declared.state.State.{State}
use Rattle.rules.proofs.Decide.{decide}
use Rattle.rules.proofs.Refusals.{call_by_ground}

-- a rule that does not refuse has no ground to
not_refused : (k : ℕ) (s : State) (buffer : List ℕ) (ok : Result) → is_refused (unless k s buffer ok).reply ≡ false → k ≡ 0
not_refused k s buffer ok =
    decide (λ (r : Result). is_refused r.reply ≡ false → k ≡ 0) k s buffer ok (λ none e. none) (λ e. absurd (true≢false e))

module _ (l : Left) (j : Lent) where
  -- the state in these jobs, with that turn due
  abbrev pub in_jobs : Turn → State
  in_jobs turn = in_phase l.state (Job turn) (batch_of j.first j.task (pairs_of l.state.side j.task j.shares))

  -- work after so many rounds
  unfoldable pub work_after : ℕ → List ℕ
  work_after zero = l.work
  work_after (suc r) = joined_after (in_jobs (Hear (suc r))) j.tapes (work_after r) (suc r) (j.incoming (suc r))

  -- what is left then, before the last round
  abbrev pub plainly : ℕ → Left
  plainly r = record { state = in_jobs (Speak (suc r)); work = work_after r; tally = first_marks l.tally j.first (count_of j.task) }

  -- and after it
  abbrev pub ended : ℕ → Left
  ended r = record { state = in_phase l.state Idle no_batch; work = work_after r; tally = first_marks l.tally j.first (count_of j.task) }

  -- the grounds of the calls
  abbrev pub start_at : ℕ
  start_at = start_ground l.state j.first j.task j.shares j.tapes l.work l.tally

  abbrev speak_at : ℕ → ℕ
  speak_at r = speak_ground (in_jobs (Speak (suc r))) j.first (suc r) j.tapes (work_after r) (j.out (suc r))

  abbrev hear_at : ℕ → ℕ
  hear_at r = hear_ground (in_jobs (Hear (suc r))) j.first (suc r) j.tapes (work_after r) (j.incoming (suc r))

  pub record Clear : Type 0 where
    pub start : start_at ≡ 0
    pub speak : (r : ℕ) → r < last_round → speak_at r ≡ 0
    pub hear : (r : ℕ) → r < last_round → hear_at r ≡ 0

  -- ---- what each call comes to

  pub started_is : start_at ≡ 0 → after_rounds l j 0 ≡ plainly 0
  unfolding after_rounds start_rule work_after
  started_is none = rw none refl

  module _ (r : ℕ) where
    pub spoken_is : speak_at r ≡ 0
        → speak_of (plainly r) j (suc r)
        ≡ outcome (spoke (round_for l.state.n (count_of j.task) (suc r))) (in_jobs (Hear (suc r)))
        (sets (j.out (suc r)) 0 (joined_message (in_jobs (Speak (suc r))) j.tapes (work_after r) (suc r)))
    unfolding speak_rule
    spoken_is none = rw none refl

    pub heard_is : speak_at r ≡ 0 → hear_at r ≡ 0
        → hear_of (plainly r) j (suc r) ≡ heard_after (in_jobs (Hear (suc r))) j.tapes (work_after r) (suc r) (j.incoming (suc r))
    unfolding hear_rule
    heard_is spoken none = rw (spoken_is spoken, none) refl

    step : suc r < last_round → after_rounds l j r ≡ plainly r → speak_at r ≡ 0 → hear_at r ≡ 0 → after_rounds l j (suc r) ≡ plainly (suc r)
    unfolding after_rounds heard_after work_after
    step more same spoken none =
        let other = ne_eqb (suc r) last_round (λ last. omega (arith, more, last)) in
        rw (same, heard_is spoken none, other, add-one (suc r)) refl

    last_step : suc r ≡ last_round → after_rounds l j r ≡ plainly r → speak_at r ≡ 0 → hear_at r ≡ 0 → after_rounds l j (suc r) ≡ ended (suc r)
    unfolding after_rounds heard_after work_after
    last_step last same spoken none = rw (same, heard_is spoken none, eq-eqb (suc r) last_round last) refl

    -- what the last hear answers
    last_reply : suc r ≡ last_round → after_rounds l j r ≡ plainly r → speak_at r ≡ 0 → hear_at r ≡ 0
        → (next_hear l j r).reply ≡ finished (answer_shares (in_jobs (Hear (suc r))) j.tapes (work_after r) (j.incoming (suc r)))
    unfolding heard_after
    last_reply last same spoken none = rw (same, heard_is spoken none, eq-eqb (suc r) last_round last) refl

  -- ---- along the rounds

  pub run_is : Clear → (r : ℕ) → r < last_round → after_rounds l j r ≡ plainly r
  run_is c zero less = started_is c.start
  run_is c (suc r) less =
      let before : r < last_round = omega arith in
      step r less (run_is c r before) (c.speak r before) (c.hear r before)

  pub whole_is : Clear → whole l j ≡ ended last_round
  whole_is c =
      let less : earlier_rounds < last_round = omega arith in
      last_step earlier_rounds refl (run_is c earlier_rounds less) (c.speak earlier_rounds less) (c.hear earlier_rounds less)

  pub reply_is : Clear
      → (next_hear l j earlier_rounds).reply
      ≡ finished (answer_shares (in_jobs (Hear last_round)) j.tapes (work_after earlier_rounds) (j.incoming last_round))
  reply_is c =
      let less : earlier_rounds < last_round = omega arith in
      last_reply earlier_rounds refl (run_is c earlier_rounds less) (c.speak earlier_rounds less) (c.hear earlier_rounds less)

  -- ---- where none is refused no ground holds, and the other way round

  -- a round on what was left before it
  round_clear : (r : ℕ) → Goes l j → r < last_round → after_rounds l j r ≡ plainly r → (speak_at r ≡ 0) × (hear_at r ≡ 0)
  unfolding speak_rule hear_rule
  round_clear r g less same =
      let spoken : speak_at r ≡ 0 = not_refused (speak_at r) (in_jobs (Speak (suc r))) (j.out (suc r)) _ (rw same at (g.speak r less)) in
      (spoken, not_refused (hear_at r) (in_jobs (Hear (suc r))) (work_after r) _ (rw (same, spoken_is r spoken) at (g.hear r less)))

  run_goes : Goes l j → (r : ℕ) → r < last_round → after_rounds l j r ≡ plainly r
  unfolding start_rule
  run_goes g zero less = started_is (not_refused start_at l.state l.tally _ g.start)
  run_goes g (suc r) less =
      let before : r < last_round = omega arith in
      let same = run_goes g r before in
      let clear = round_clear r g before same in
      step r less same clear.0 clear.1

  pub goes_clear : Goes l j → Clear
  unfolding start_rule
  goes_clear g =
      record {
        start = not_refused start_at l.state l.tally _ g.start;
        speak = λ r less. (round_clear r g less (run_goes g r less)).0;
        hear = λ r less. (round_clear r g less (run_goes g r less)).1;
      }

  pub clear_goes : Clear → Goes l j
  clear_goes c =
      record {
        start = (call_by_ground l.state (start j.first j.task j.shares j.tapes l.work l.tally)).answers c.start;
        speak = λ r less. rw (run_is c r less)
            ((call_by_ground (in_jobs (Speak (suc r))) (speak j.first (suc r) j.tapes (work_after r) (j.out (suc r)))).answers (c.speak r less));
        hear = λ r less. rw (run_is c r less, spoken_is r (c.speak r less))
            ((call_by_ground (in_jobs (Hear (suc r))) (hear j.first (suc r) j.tapes (work_after r) (j.incoming (suc r)))).answers (c.hear r less));
      }
