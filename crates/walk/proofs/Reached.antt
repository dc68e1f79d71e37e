-- Where the first calls of the walk lead, by the rules, and what box 1's tally is along them.
use Prim.Native.Nat.{ℕ, zero, suc, ◌+◌, ◌/◌, ◌%◌}
use mathlib.Core.Path.{◌≡◌, refl, ◌∙◌}
use mathlib.Core.Bool.{Bool, true, false, cond}
use native.Mathlib.Omega.{arith}
use lib.Dec.{eqb}
use Rattle.lists.specs.Tabulate.{tabulate}
use Rattle.field.specs.Width.{listed, modulus}
use Rattle.shares.specs.Side.{is_side}
use Rattle.tape.specs.Plain.{plain_tape}
use Rattle.tape.specs.Order.{in_order, trailer_fits, body_in_range}
use Rattle.protocol.specs.Rounds.{round_words}
use Rattle.protocol.specs.Sizes.{count_fits}
use Rattle.tally.specs.Tally.{tally_fits, tapes_of, is_fresh, late, marked}
use Rattle.rules.specs.Modes.{in_range, mode_of}
use Rattle.rules.specs.Grounds.{wake_ground, start_ground, speak_ground}
use Rattle.rules.specs.Calls.{wake_rule, start_rule, speak_rule}
use Rattle.rules.specs.declared.state.Turn.TheVariants.{Speak as SpeakDue, Hear as HearDue}
use Rattle.exchange.specs.Opening.{first_state}
use Rattle.walk.specs.declared.job_steps.Step.TheVariants.{Speak, Hear}
use Rattle.walk.specs.declared.progress.Pair.{Pair}
use Rattle.walk.specs.Walk.{idle_state, job_state, one_start, box_tape, fresh_tally, tally_after}
use Rattle.walk.specs.JobSteps.{step_at}
use Rattle.walk.specs.Courses.{Asked, plain_job, Woken, Stepped, Course, none, next}

-- ---- box 1 wakes, starts its job on tape 0 and speaks

pub woken_four : (wake_rule first_state 3 1 5 fresh_tally).state ≡ idle_state 16
unfolding wake_rule wake_ground mode_of in_range listed is_side tally_fits
woken_four = refl

pub woken_tally : (wake_rule first_state 3 1 5 fresh_tally).buffer ≡ fresh_tally
unfolding wake_rule wake_ground mode_of in_range listed is_side tally_fits
woken_tally = refl

pub opened_four : (one_start (idle_state 16) 0 5 1 (box_tape 1 0) (tabulate 300 (λ k. 6)) fresh_tally).state ≡ job_state 16 (SpeakDue 1)
unfolding start_rule start_ground mode_of in_range count_fits listed is_side tally_fits tapes_of is_fresh late modulus in_order trailer_fits body_in_range plain_tape
opened_four = refl

pub spoken_four : (speak_rule (job_state 16 (SpeakDue 1)) 0 1 (box_tape 1 0) (tabulate 300 (λ k. 6)) (tabulate 99 (λ k. 6))).state ≡ job_state 16 (HearDue 1)
unfolding speak_rule speak_ground mode_of in_range count_fits listed is_side tally_fits tapes_of modulus in_order trailer_fits body_in_range plain_tape round_words
spoken_four = refl

marked_four : (one_start (idle_state 16) 0 5 1 (box_tape 1 0) (tabulate 300 (λ k. 6)) fresh_tally).buffer ≡ tally_after 1
unfolding start_rule start_ground mode_of in_range count_fits listed is_side tally_fits tapes_of is_fresh late marked modulus in_order trailer_fits body_in_range plain_tape
marked_four = refl

-- ---- the tally through the job

-- a speak and a hear leave it
kept : (j : Asked) (even : Bool) (r s : ℕ) (b a : Pair) → Stepped j (cond even (Speak r) (Hear s)) b a → a.box1.tally ≡ b.box1.tally
kept j true r s b a h = grind (arith, h)
kept j false r s b a h = grind (arith, h)

-- before the first step
at_start : {j : Asked} {from p : Pair} {steps : ℕ} → Course j from steps p → steps ≡ 0 → p ≡ from
at_start none e = refl
at_start (next c h) e = absurd (omega (arith, e))

-- the start marks tape 0, and no later step changes the tally
pub tally_is : {from p : Pair} {steps : ℕ} → Woken from → Course plain_job from steps p → p.box1.tally ≡ tally_after steps
tally_is w none = grind (arith, w, woken_tally)
tally_is {from} w (next {steps = zero} {b = b} c h) =
    let here : b ≡ from = at_start c refl in
    let state : from.box1.state ≡ idle_state 16 = w.0.0.state ∙ woken_four in
    let tally : from.box1.tally ≡ fresh_tally = w.0.0.left ∙ woken_tally in
    h.0.0.left ∙ rw (here, state, tally, w.0.1) marked_four
tally_is w (next {steps = suc k} {b = b} {a = a} c h) =
    let later : step_at (suc k + 1) ≡ cond (eqb ((suc k + 1) % 2) 0) (Speak ((suc k + 1) / 2)) (Hear ((suc k + 1) / 2)) = grind arith in
    let same : tally_after (suc k) ≡ tally_after (suc k + 1) = grind arith in
    kept plain_job _ _ _ b a (rw later at h) ∙ tally_is w c ∙ same
