-- Demand 1 over the rules, proved: from what is refused (Refusals), what a call that goes on was given (Passed), and its moves (Moves).
use Prim.Native.Nat.{ℕ, ◌+◌, ◌-◌, ◌≤◌}
use mathlib.Core.Path.{◌≡◌, refl, sym, ap, ap₂, ◌∙◌}
use mathlib.Core.Bool.{Bool, true, false, cond, or-true, true≢false}
use mathlib.Core.List.{List, [], ◌∷◌, ◌++◌}
use native.Mathlib.Omega.{arith}
use borrow.Author.Tests.{eqb-true, eqb-false, eq-eqb}
use lib.Dec.{eqb}
use lib.ListN.{length}
use Rattle.std.proofs.lemmas.List.{map-append}
use Rattle.lists.specs.Joined.{chained}
use Rattle.field.specs.Width.{listed, among}
use Rattle.shares.specs.Side.{is_side}
use Rattle.refusals.specs.Numbers.{number_of}
use Rattle.refusals.specs.Grounds.{Ground, earliest_of, numbers_of, joined}
use Rattle.tally.specs.Tally.{tally_fits, tapes_of}
use Rattle.tally.proofs.Starts.{starts}
use Rattle.rules.specs.Tasks.{count_of, pairs_of}
use Rattle.rules.specs.Modes.{in_range, mode_of, is_asleep, in_job, asleep_state}
use Rattle.rules.specs.Grounds.{asked_parts, one_parts, start_grounds, wake_ground, start_ground, speak_ground, hear_ground, drop_ground}
use Rattle.rules.specs.Calls.{wake_rule, start_rule}
use Rattle.rules.specs.AnyCall.{Call, wake, start, speak, hear, drop, ground_of, result_of, is_wake, is_refused, asked_order, order_of, grounds_of}
use Rattle.rules.specs.Moves.{Opens, TakesJob}
use Rattle.rules.specs.Answering.{Answering}
use Rattle.rules.specs.declared.state.Task.{Task}
use Rattle.rules.specs.declared.state.Task.TheVariants.{Compare, Band}
use Rattle.rules.specs.declared.state.Phase.TheVariants.{Asleep}
use Rattle.rules.specs.declared.state.State.{State}
use Rattle.rules.proofs.Batches.{count_most}
use Rattle.rules.proofs.Chained.{numbers_chained}
use Rattle.rules.proofs.Refusals.{call_by_ground, asleep_refuses, awake_refuses}
use Rattle.rules.proofs.Passed.{StartPassed, start_passed}
use Rattle.rules.proofs.Moves.{woken, started_job, moves, keeps}

-- ---- asleep

-- a refused call's outcome is in the mode that the state was in
same_mode : (s : State) (call : Call) → (ground_of s call ≡ 0 → ⊥) → mode_of (result_of s call).state ≡ mode_of s
same_mode s call z = ap mode_of ((call_by_ground s call).same_state z)

only_wake : (s : State) (call : Call) → is_asleep (mode_of s) ≡ true → is_asleep (mode_of (result_of s call).state) ≡ false → is_wake call ≡ true
only_wake s call asleep awake = go (is_wake call) refl
  where
    go : (t : Bool) → is_wake call ≡ t → t ≡ true
    go true e = refl
    go false e =
        let one = asleep_refuses s call asleep e in
        let same = same_mode s call (λ z. omega (arith, one, z)) in
        absurd (true≢false (sym (ap is_asleep same ∙ asleep) ∙ awake))

wake_ground_lem : (s : State) (n side : ℕ) (tally : List ℕ) → is_asleep (mode_of s) ≡ true → listed n ≡ true → is_side side ≡ true
    → tally_fits (length tally) ≡ true → wake_ground s n side tally ≡ 0
unfolding wake_ground
wake_ground_lem s n side tally asleep width sided fits = rw (asleep, width, sided, fits)

wakes : (s : State) (n side pair : ℕ) (tally : List ℕ) → is_asleep (mode_of s) ≡ true → listed n ≡ true → is_side side ≡ true
    → tally_fits (length tally) ≡ true → is_asleep (mode_of (result_of s (wake n side pair tally)).state) ≡ false
wakes s n side pair tally asleep width sided fits =
    ap is_asleep (woken s n side pair tally (wake_ground_lem s n side tally asleep width sided fits))

-- ---- the numbers

-- the ground is the first of the call's
first_is : (s : State) (call : Call) → ground_of s call ≡ earliest_of (grounds_of s call)
unfolding wake_ground start_ground speak_ground hear_ground drop_ground
first_is s (wake n side pair tally) = refl
first_is s (start first task shares tapes work tally) = refl
first_is s (speak first round tapes work out) = refl
first_is s (hear first round tapes work incoming) = refl
first_is s drop = refl

-- those of what is asked
asked_numbers : (s : State) (task : Task) (shares tally : List ℕ) → numbers_of (joined (asked_parts s task shares tally)) ≡ asked_order task
asked_numbers s (Compare count) shares tally = refl
asked_numbers s (Band low high) shares tally = refl

-- a start's, job by job
start_order : (s : State) (first : ℕ) (task : Task) (shares tapes work tally : List ℕ)
    → numbers_of (start_grounds s first task shares tapes work tally) ≡ order_of (start first task shares tapes work tally)
start_order s first task shares tapes work tally =
    let count = count_of task in
    let one : ℕ → List Ground = λ i. joined (one_parts s first count (pairs_of s.side task shares) tapes tally i) in
    let jobs = map-append _ (chained count one) _ ∙ ap (λ (numbers : List ℕ). numbers ++ (12 ∷ [])) (numbers_chained count one) in
    ap (λ (rest : List ℕ). 1 ∷ 5 ∷ rest) (map-append _ (joined (asked_parts s task shares tally)) _ ∙ ap₂ ◌++◌ (asked_numbers s task shares tally) jobs)

order_is : (s : State) (call : Call) → numbers_of (grounds_of s call) ≡ order_of call
order_is s (wake n side pair tally) = refl
order_is s (start first task shares tapes work tally) = start_order s first task shares tapes work tally
order_is s (speak first round tapes work out) = refl
order_is s (hear first round tapes work incoming) = refl
order_is s drop = refl

-- the first that holds is one of them
first_among : (gs : List Ground) → (earliest_of gs ≡ 0 → ⊥) → among (earliest_of gs) (numbers_of gs) ≡ true
first_among [] some = absurd (some refl)
first_among (g ∷ gs) some = go g.holds some (first_among gs)
  where
    go : (t : Bool) → (cond t (number_of g.refusal) (earliest_of gs) ≡ 0 → ⊥) → ((earliest_of gs ≡ 0 → ⊥) → among (earliest_of gs) (numbers_of gs) ≡ true)
        → among (cond t (number_of g.refusal) (earliest_of gs)) (numbers_of (g ∷ gs)) ≡ true
    go true some later = rw (eq-eqb (number_of g.refusal) (number_of g.refusal) refl) refl
    go false some later = rw (later some) (or-true (eqb (earliest_of gs) (number_of g.refusal)))

numbered : (s : State) (call : Call) → (ground_of s call ≡ 0 → ⊥) → among (ground_of s call) (order_of call) ≡ true
numbered s call some = rw (first_is s call, ← order_is s call) (first_among (grounds_of s call) (rw (first_is s call) at some))

-- ---- jobs

-- a wake's outcome is in no job where the state is in none
wake_no_job : (s : State) (n side pair : ℕ) (tally : List ℕ) → in_job (mode_of s) ≡ false
    → in_job (mode_of (wake_rule s n side pair tally).state) ≡ false
wake_no_job s n side pair tally e = go (eqb (wake_ground s n side tally) 0) refl
  where
    go : (t : Bool) → eqb (wake_ground s n side tally) 0 ≡ t → in_job (mode_of (wake_rule s n side pair tally).state) ≡ false
    go true z = ap in_job (woken s n side pair tally (eqb-true (wake_ground s n side tally) 0 z))
    go false z = ap in_job (same_mode s (wake n side pair tally) (eqb-false (wake_ground s n side tally) 0 z)) ∙ e

one_or_six : (t : Bool) → cond {A = ℕ} t 1 6 ≡ 0 → ⊥
one_or_six true e = omega (arith, e)
one_or_six false e = omega (arith, e)

-- with no job open speak, hear and drop are refused
speak_refused : (s : State) (first round : ℕ) (tapes work out : List ℕ) → in_job (mode_of s) ≡ false → speak_ground s first round tapes work out ≡ 0 → ⊥
unfolding speak_ground
speak_refused s first round tapes work out e z = one_or_six (is_asleep (mode_of s)) (rw e at z)

hear_refused : (s : State) (first round : ℕ) (tapes work incoming : List ℕ) → in_job (mode_of s) ≡ false
    → hear_ground s first round tapes work incoming ≡ 0 → ⊥
unfolding hear_ground
hear_refused s first round tapes work incoming e z = one_or_six (is_asleep (mode_of s)) (rw e at z)

drop_refused : (s : State) → in_job (mode_of s) ≡ false → drop_ground s ≡ 0 → ⊥
unfolding drop_ground
drop_refused s e z = one_or_six (is_asleep (mode_of s)) (rw e at z)

-- a refused call takes no job
refused_no_job : (s : State) (call : Call) → (ground_of s call ≡ 0 → ⊥) → in_job (mode_of s) ≡ false
    → in_job (mode_of (result_of s call).state) ≡ true → ⊥
refused_no_job s call z e h = true≢false (sym h ∙ ap in_job (same_mode s call z) ∙ e)

-- the last of a start's numbers is a tape's
all_within : (s : State) (first : ℕ) (task : Task) (shares tapes work tally : List ℕ) → StartPassed s first task shares tapes work tally
    → first + count_of task ≤ tapes_of (length tally)
all_within s first task shares tapes work tally p =
    let least = (count_most (count_of task) p.counted).0 in
    omega (arith, p.numbered (count_of task - 1) (omega arith), least)

opened : (s : State) (first : ℕ) (task : Task) (shares tapes work tally : List ℕ) → start_ground s first task shares tapes work tally ≡ 0
    → Opens s first task shares tally (start_rule s first task shares tapes work tally)
unfolding start_rule
opened s first task shares tapes work tally z =
    let p = start_passed s first task shares tapes work tally z in
    let left = starts.marks tally first (count_of task) (all_within s first task shares tapes work tally p) in
    record {
      awake = p.awake;
      same_length = p.same_tally;
      asked = p.asked;
      was_fresh = p.fresh;
      not_late = p.in_time;
      is_spent = rw z left.spent;
      left_length = rw z left.same_length;
      others = rw z left.elsewhere;
      phase = started_job s first task shares tapes work tally z;
      batch = rw z refl;
    }

takes_job : (s : State) (call : Call) → in_job (mode_of s) ≡ false → in_job (mode_of (result_of s call).state) ≡ true → TakesJob s call
takes_job s (wake n side pair tally) e h = true≢false (sym h ∙ wake_no_job s n side pair tally e)
takes_job s (start first task shares tapes work tally) e h = go (eqb (start_ground s first task shares tapes work tally) 0) refl
  where
    call : Call
    call = start first task shares tapes work tally

    go : (t : Bool) → eqb (ground_of s call) 0 ≡ t → TakesJob s call
    go true z = opened s first task shares tapes work tally (eqb-true (ground_of s call) 0 z)
    go false z = absurd (refused_no_job s call (eqb-false (ground_of s call) 0 z) e h)
takes_job s (speak first round tapes work out) e h =
    refused_no_job s (speak first round tapes work out) (speak_refused s first round tapes work out e) e h
takes_job s (hear first round tapes work incoming) e h =
    refused_no_job s (hear first round tapes work incoming) (hear_refused s first round tapes work incoming e) e h
takes_job s drop e h = refused_no_job s drop (drop_refused s e) e h

-- ---- outside the ranges

counts : (s : State) → in_range s ≡ false → is_asleep (mode_of s) ≡ true
unfolding mode_of
counts s e = rw e

asleep_is : (s : State) → is_asleep (mode_of (asleep_state s)) ≡ true
unfolding mode_of
asleep_is s = go (in_range (asleep_state s))
  where
    go : (t : Bool) → is_asleep (cond t Asleep Asleep) ≡ true
    go true = refl
    go false = refl

-- wake asks of the state only whether it is asleep
wake_same : (s r : State) (n side : ℕ) (tally : List ℕ) → is_asleep (mode_of s) ≡ is_asleep (mode_of r)
    → wake_ground s n side tally ≡ wake_ground r n side tally
unfolding wake_ground
wake_same s r n side tally e = rw e

both_one : (s r : State) (call : Call) → is_asleep (mode_of s) ≡ true → is_asleep (mode_of r) ≡ true → is_wake call ≡ false
    → ground_of s call ≡ ground_of r call
both_one s r call a b e = asleep_refuses s call a e ∙ sym (asleep_refuses r call b e)

asleep_ground : (s r : State) (call : Call) → is_asleep (mode_of s) ≡ true → is_asleep (mode_of r) ≡ true → ground_of s call ≡ ground_of r call
asleep_ground s r (wake n side pair tally) a b = wake_same s r n side tally (a ∙ sym b)
asleep_ground s r (start first task shares tapes work tally) a b = both_one s r (start first task shares tapes work tally) a b refl
asleep_ground s r (speak first round tapes work out) a b = both_one s r (speak first round tapes work out) a b refl
asleep_ground s r (hear first round tapes work incoming) a b = both_one s r (hear first round tapes work incoming) a b refl
asleep_ground s r drop a b = both_one s r drop a b refl

-- ---- all of it

refused_ground : (s : State) (call : Call) → is_refused (result_of s call).reply ≡ true → ground_of s call ≡ 0 → ⊥
refused_ground s call e z = true≢false (sym e ∙ (call_by_ground s call).answers z)

pub answering : Answering
answering =
    record {
      answered =
          λ s call. record {
            first = first_is s call;
            order = order_is s call;
            numbered = numbered s call;
            answers = (call_by_ground s call).answers;
            refuses = (call_by_ground s call).refuses;
          };
      unchanged =
          λ s call. record {
            same_state = λ e. (call_by_ground s call).same_state (refused_ground s call e);
            same_buffer = λ e. (call_by_ground s call).same_buffer (refused_ground s call e);
          };
      waking =
          λ s call. record { asleep_refuses = asleep_refuses s call; only_wake = only_wake s call; awake_refuses = awake_refuses s call };
      wakes = wakes;
      moves = moves;
      keeps = keeps;
      takes_job = takes_job;
      outside =
          λ s call. record {
            counts = counts s;
            same_ground = λ e. asleep_ground s (asleep_state s) call (counts s e) (asleep_is s);
          };
    }
