-- Which calls a box asleep and a box awake refuse, and what a refusal leaves. A call's result is `unless` over its ground, so the latter is said
-- once for the five.
use Prim.Native.Nat.{ℕ}
use mathlib.Core.Path.{◌≡◌, refl, ap}
use mathlib.Core.Bool.{Bool, true, false, not, cond, true≢false, false≢true}
use mathlib.Core.List.{List, []}
use borrow.Author.Tests.{eq-eqb, ne_eqb}
use lib.Dec.{eqb}
use Rattle.protocol.specs.Rounds.{last_round}
use Rattle.rules.specs.Answers.{refused}
use Rattle.rules.specs.Modes.{mode_of, is_asleep}
use Rattle.rules.specs.Grounds.{wake_ground, start_ground, speak_ground, hear_ground, drop_ground}
use Rattle.rules.specs.Calls.{Result, unless, wake_rule, start_rule, speak_rule, heard_after, hear_rule, drop_rule}
use Rattle.rules.specs.AnyCall.{Call, wake, start, speak, hear, drop, ground_of, result_of, buffer_of, is_wake, is_refused}
use Rattle.rules.specs.declared.state.State.{State}

-- ---- refused, or not

-- what holds of a call's result by its ground
pub record ByGround (k : ℕ) (s : State) (buffer : List ℕ) (r : Result) : Type 0 where
  pub answers : k ≡ 0 → is_refused r.reply ≡ false
  pub refuses : (k ≡ 0 → ⊥) → r.reply ≡ refused k
  pub same_state : (k ≡ 0 → ⊥) → r.state ≡ s
  pub same_buffer : (k ≡ 0 → ⊥) → r.buffer ≡ buffer

by_ground : (k : ℕ) (s : State) (buffer : List ℕ) (ok : Result) → is_refused ok.reply ≡ false → ByGround k s buffer (unless k s buffer ok)
by_ground k s buffer ok e =
    record {
      answers = λ z. rw (eq-eqb k 0 z) e;
      refuses = λ z. rw (ne_eqb k 0 z);
      same_state = λ z. rw (ne_eqb k 0 z);
      same_buffer = λ z. rw (ne_eqb k 0 z);
    }

-- a hear that is not refused answers, in the last round or before
hear_answers : (t : Bool) (a b : Result) → is_refused a.reply ≡ false → is_refused b.reply ≡ false → is_refused (cond t a b).reply ≡ false
hear_answers true a b ea eb = ea
hear_answers false a b ea eb = eb

pub call_by_ground : (s : State) (call : Call) → ByGround (ground_of s call) s (buffer_of call) (result_of s call)
unfolding wake_rule start_rule speak_rule hear_rule heard_after drop_rule
call_by_ground s (wake n side pair tally) = by_ground (wake_ground s n side tally) s tally _ refl
call_by_ground s (start first task shares tapes work tally) = by_ground (start_ground s first task shares tapes work tally) s tally _ refl
call_by_ground s (speak first round tapes work out) = by_ground (speak_ground s first round tapes work out) s out _ refl
call_by_ground s (hear first round tapes work incoming) =
    by_ground (hear_ground s first round tapes work incoming) s work _ (hear_answers (eqb round last_round) _ _ refl refl)
call_by_ground s drop = by_ground (drop_ground s) s [] _ refl

-- ---- asleep, and awake

-- a ground that holds is the first, before any others
holds_first : (t : Bool) (k rest : ℕ) → t ≡ true → cond t k rest ≡ k
holds_first t k rest e = rw e

pub asleep_refuses : (s : State) (call : Call) → is_asleep (mode_of s) ≡ true → is_wake call ≡ false → ground_of s call ≡ 1
unfolding wake_ground start_ground speak_ground hear_ground drop_ground
asleep_refuses s (wake n side pair tally) asleep e = absurd (true≢false e)
asleep_refuses s (start first task shares tapes work tally) asleep e = holds_first (is_asleep (mode_of s)) 1 _ asleep
asleep_refuses s (speak first round tapes work out) asleep e = holds_first (is_asleep (mode_of s)) 1 _ asleep
asleep_refuses s (hear first round tapes work incoming) asleep e = holds_first (is_asleep (mode_of s)) 1 _ asleep
asleep_refuses s drop asleep e = holds_first (is_asleep (mode_of s)) 1 _ asleep

pub awake_refuses : (s : State) (call : Call) → is_asleep (mode_of s) ≡ false → is_wake call ≡ true → ground_of s call ≡ 5
unfolding wake_ground
awake_refuses s (wake n side pair tally) awake e = holds_first (not (is_asleep (mode_of s))) 5 _ (ap not awake)
awake_refuses s (start first task shares tapes work tally) awake e = absurd (false≢true e)
awake_refuses s (speak first round tapes work out) awake e = absurd (false≢true e)
awake_refuses s (hear first round tapes work incoming) awake e = absurd (false≢true e)
awake_refuses s drop awake e = absurd (false≢true e)
