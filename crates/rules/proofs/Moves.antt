-- How a call that is not refused moves a box, and what it answers: each move of demand 1, from what the call was given.
use Prim.Native.Nat.{ℕ, ◌+◌, ◌<◌}
use mathlib.Core.Path.{◌≡◌, refl, sym, subst, ◌∙◌}
use mathlib.Core.Bool.{Bool, true, false, cond, true≢false, false≢true}
use mathlib.Core.List.{List, []}
use native.Mathlib.Omega.{arith}
use borrow.Author.Tests.{lt-ltb, le-leb, ne_eqb, eqb-true, eqb-false, not-false}
use lib.Dec.{eqb}
use lib.ListN.{length}
use Rattle.lists.proofs.Tests.{and_both}
use Rattle.lists.proofs.Every.{every_intro}
use Rattle.field.specs.Width.{modulus}
use Rattle.protocol.specs.Rounds.{last_round}
use Rattle.refusals.proofs.Chains.{none}
use Rattle.rules.specs.Tasks.{count_of, pairs_of}
use Rattle.rules.specs.Answers.{dropped}
use Rattle.tally.specs.Tally.{tapes_of}
use Rattle.rules.specs.Modes.{batch_fits, in_range, mode_of, is_asleep, in_job, in_phase}
use Rattle.rules.specs.Batches.{no_batch, x_in, y_in, batch_of}
use Rattle.rules.specs.Grounds.{wake_ground, start_ground, speak_ground, hear_ground, drop_ground, drop_grounds}
use Rattle.rules.specs.Calls.{Result, unless, wake_rule, start_rule, speak_rule, heard_after, hear_rule, drop_rule}
use Rattle.rules.specs.AnyCall.{Call, wake, start, speak, hear, drop, ground_of, result_of, is_wake}
use Rattle.rules.specs.Moves.{Moves, wakes_up, opens, speaks, hears, ends, drops}
use Rattle.rules.specs.declared.state.Task.{Task}
use Rattle.rules.specs.declared.state.Turn.{Turn}
use Rattle.rules.specs.declared.state.Turn.TheVariants.{Speak, Hear}
use Rattle.rules.specs.declared.state.Phase.{Phase}
use Rattle.rules.specs.declared.state.Phase.TheVariants.{Asleep, Idle, Job}
use Rattle.rules.specs.declared.state.State.{State}
use Rattle.rules.proofs.Decide.{decide}
use Rattle.rules.proofs.Batches.{batch_x, batch_y}
use Rattle.rules.proofs.Ranges.{awake_range, awake_mode, phase_mode, turned_mode}
use Rattle.rules.proofs.Passed.{wake_passed, StartPassed, start_passed, speak_passed, hear_passed, TurnPassed}

-- ---- the phase that is found

is_asleep_lem : (p : Phase) → is_asleep p ≡ true → p ≡ Asleep
is_asleep_lem Asleep e = refl
is_asleep_lem Idle e = absurd (false≢true e)
is_asleep_lem (Job turn) e = absurd (false≢true e)

pub is_idle : (p : Phase) → is_asleep p ≡ false → in_job p ≡ false → p ≡ Idle
is_idle Asleep awake free = absurd (true≢false awake)
is_idle Idle awake free = refl
is_idle (Job turn) awake free = absurd (true≢false free)

-- the job in which a speak or a hear is due
found_job : (s : State) {first : ℕ} {turn : Turn} {tapes : List ℕ} → TurnPassed s first turn tapes → mode_of s ≡ Job turn
found_job s t = awake_mode s t.awake ∙ t.due.job

-- ---- wake

pub woken : (s : State) (n side pair : ℕ) (tally : List ℕ) → wake_ground s n side tally ≡ 0 → mode_of (wake_rule s n side pair tally).state ≡ Idle
unfolding wake_rule mode_of in_range
woken s n side pair tally z =
    let p = wake_passed s n side tally z in
    rw (z, p.width, p.sided, p.tallied)

-- what a call that is not refused finds, answers and leaves
Moved : State → Call → Type 0
Moved s call = Moves s.n s.side (mode_of s) s.batch call (result_of s call).reply (mode_of (result_of s call).state) (result_of s call).state.batch

wake_moves : (s : State) (n side pair : ℕ) (tally : List ℕ) → wake_ground s n side tally ≡ 0 → Moved s (wake n side pair tally)
unfolding wake_rule Moved
wake_moves s n side pair tally z =
    rw (is_asleep_lem (mode_of s) (wake_passed s n side tally z).asleep, woken s n side pair tally z, z) wakes_up

-- ---- start

-- the jobs that a start takes are in range
started_fits : (s : State) (first : ℕ) (task : Task) (shares tapes work tally : List ℕ) → StartPassed s first task shares tapes work tally
    → batch_fits s.n s.tally (batch_of first task (pairs_of s.side task shares)) ≡ true
started_fits s first task shares tapes work tally p =
    let pairs = pairs_of s.side task shares in
    and_both p.fits
    (every_intro (count_of task) _
    (λ i less.
    rw (
      ← p.same_tally,
      lt-ltb (first + i) (tapes_of (length tally)) (p.numbered i less),
      batch_x first task pairs i p.counted less,
      lt-ltb (x_in pairs i) (modulus s.n) (p.x_fits i less),
      batch_y first task pairs i p.counted less,
      lt-ltb (y_in pairs i) (modulus s.n) (p.y_fits i less),
    )
    refl))

pub started_job : (s : State) (first : ℕ) (task : Task) (shares tapes work tally : List ℕ) → start_ground s first task shares tapes work tally ≡ 0
    → mode_of (start_rule s first task shares tapes work tally).state ≡ Job (Speak 1)
unfolding start_rule
started_job s first task shares tapes work tally z =
    let p = start_passed s first task shares tapes work tally z in
    rw z
    (phase_mode s (Job (Speak 1)) (batch_of first task (pairs_of s.side task shares)) (awake_range s p.awake) (started_fits s first task shares tapes work tally p))

start_moves : (s : State) (first : ℕ) (task : Task) (shares tapes work tally : List ℕ) → start_ground s first task shares tapes work tally ≡ 0
    → Moved s (start first task shares tapes work tally)
unfolding start_rule Moved
start_moves s first task shares tapes work tally z =
    let p = start_passed s first task shares tapes work tally z in
    rw (is_idle (mode_of s) p.awake p.idle, started_job s first task shares tapes work tally z, z) opens

-- ---- speak

-- what a speak leaves, and below a hear: the jobs that it found, with the turn that is due next
spoken_job : (s : State) (first round : ℕ) (tapes work out : List ℕ) → speak_ground s first round tapes work out ≡ 0
    → TurnPassed s first (Speak round) tapes → mode_of (speak_rule s first round tapes work out).state ≡ Job (Hear round)
unfolding speak_rule
spoken_job s first round tapes work out z t = rw z (turned_mode s (Hear round) t.range.in_rounds (awake_range s t.awake) t.due.job)

speak_moves : (s : State) (first round : ℕ) (tapes work out : List ℕ) → speak_ground s first round tapes work out ≡ 0
    → Moved s (speak first round tapes work out)
unfolding speak_rule Moved
speak_moves s first round tapes work out z =
    let t = (speak_passed s first round tapes work out z).turn in
    rw (found_job s t, spoken_job s first round tapes work out z t, z, t.due.first_is) speaks

-- ---- hear

heard_job : (s : State) (first round : ℕ) (tapes work incoming : List ℕ) → hear_ground s first round tapes work incoming ≡ 0 → (round ≡ last_round → ⊥)
    → TurnPassed s first (Hear round) tapes → mode_of (hear_rule s first round tapes work incoming).state ≡ Job (Speak (round + 1))
unfolding hear_rule heard_after
heard_job s first round tapes work incoming z other t =
    let last = t.range.last in
    rw (z, ne_eqb round last_round other)
    (turned_mode s (Speak (round + 1)) (rw (le-leb 1 (round + 1) (omega arith), le-leb (round + 1) last_round (omega arith))) (awake_range s t.awake) t.due.job)

-- before the last round
hear_goes_on : (s : State) (first round : ℕ) (tapes work incoming : List ℕ) → hear_ground s first round tapes work incoming ≡ 0 → (round ≡ last_round → ⊥)
    → Moved s (hear first round tapes work incoming)
unfolding hear_rule heard_after Moved
hear_goes_on s first round tapes work incoming z other =
    let t = (hear_passed s first round tapes work incoming z).turn in
    let less : round < last_round = omega (arith, t.range.last) in
    rw (found_job s t, heard_job s first round tapes work incoming z other t, z, ne_eqb round last_round other, t.due.first_is) (hears less)

ended_idle : (s : State) (first : ℕ) (tapes work incoming : List ℕ) → hear_ground s first last_round tapes work incoming ≡ 0
    → TurnPassed s first (Hear last_round) tapes → mode_of (hear_rule s first last_round tapes work incoming).state ≡ Idle
unfolding hear_rule heard_after
ended_idle s first tapes work incoming z t = rw z (phase_mode s Idle _ (awake_range s t.awake) refl)

hear_ends : (s : State) (first : ℕ) (tapes work incoming : List ℕ) → hear_ground s first last_round tapes work incoming ≡ 0
    → Moved s (hear first last_round tapes work incoming)
unfolding hear_rule heard_after Moved
hear_ends s first tapes work incoming z =
    let t = (hear_passed s first last_round tapes work incoming z).turn in
    rw (found_job s t, ended_idle s first tapes work incoming z t, z, t.due.first_is) ends

hear_moves : (s : State) (first round : ℕ) (tapes work incoming : List ℕ) → hear_ground s first round tapes work incoming ≡ 0
    → Moved s (hear first round tapes work incoming)
hear_moves s first round tapes work incoming z = go (eqb round last_round) refl
  where
    go : (t : Bool) → eqb round last_round ≡ t → Moved s (hear first round tapes work incoming)
    go true e =
        subst (λ (r : ℕ). hear_ground s first r tapes work incoming ≡ 0 → Moved s (hear first r tapes work incoming)) (sym (eqb-true round last_round e))
        (hear_ends s first tapes work incoming) z
    go false e = hear_goes_on s first round tapes work incoming z (eqb-false round last_round e)

-- ---- drop

dropped_idle : (s : State) → drop_ground s ≡ 0 → is_asleep (mode_of s) ≡ false → mode_of (drop_rule s).state ≡ Idle
unfolding drop_rule
dropped_idle s z awake = rw z (phase_mode s Idle _ (awake_range s awake) refl)

drop_moves : (s : State) → drop_ground s ≡ 0 → Moved s drop
unfolding drop_rule drop_ground Moved
drop_moves s z =
    let c = none (drop_grounds s) z in
    rw (dropped_idle s z c.0, z) (go (mode_of s) (not-false (in_job (mode_of s)) c.1.0))
  where
    go : (p : Phase) → in_job p ≡ true → Moves s.n s.side p s.batch drop dropped Idle no_batch
    go Asleep e = absurd (false≢true e)
    go Idle e = absurd (false≢true e)
    go (Job turn) e = drops

pub moves : (s : State) (call : Call) → ground_of s call ≡ 0
    → Moves s.n s.side (mode_of s) s.batch call (result_of s call).reply (mode_of (result_of s call).state) (result_of s call).state.batch
unfolding Moved
moves s (wake n side pair tally) z = wake_moves s n side pair tally z
moves s (start first task shares tapes work tally) z = start_moves s first task shares tapes work tally z
moves s (speak first round tapes work out) z = speak_moves s first round tapes work out z
moves s (hear first round tapes work incoming) z = hear_moves s first round tapes work incoming z
moves s drop z = drop_moves s z

-- ---- what the state keeps

-- the width, the side, the pair number and the tally's length
Keeps : State → Result → Type 0
Keeps s r = r.state ≡ in_phase s r.state.phase r.state.batch

same_box_lem : (k : ℕ) (s : State) (buffer : List ℕ) (ok : Result) → Keeps s ok → Keeps s (unless k s buffer ok)
unfolding Keeps
same_box_lem k s buffer ok e = decide (Keeps s) k s buffer ok (λ z. e) refl

either_box : (t : Bool) (s : State) (a b : Result) → Keeps s a → Keeps s b → Keeps s (cond t a b)
either_box true s a b ea eb = ea
either_box false s a b ea eb = eb

pub keeps : (s : State) (call : Call) → is_wake call ≡ false
    → (result_of s call).state ≡ in_phase s (result_of s call).state.phase (result_of s call).state.batch
unfolding start_rule speak_rule hear_rule heard_after drop_rule Keeps
keeps s (wake n side pair tally) e = absurd (true≢false e)
keeps s (start first task shares tapes work tally) e = same_box_lem (start_ground s first task shares tapes work tally) s tally _ refl
keeps s (speak first round tapes work out) e = same_box_lem (speak_ground s first round tapes work out) s out _ refl
keeps s (hear first round tapes work incoming) e =
    same_box_lem (hear_ground s first round tapes work incoming) s work _ (either_box (eqb round last_round) s _ _ refl refl)
keeps s drop e = same_box_lem (drop_ground s) s [] _ refl
