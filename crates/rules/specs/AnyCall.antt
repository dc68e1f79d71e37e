-- The calls as one, both starts being one with its task: what a call is given, its grounds, its result and the buffer that it may change.
use Rattle.std.specs.Prelude.{ℕ, Bool, true, false, List, [], ◌∷◌, ◌++◌}
use Rattle.lists.specs.Joined.{chained}
use Rattle.refusals.specs.Grounds.{Ground}
use Rattle.rules.specs.Answers.{Reply, fresh, started, spoke, heard, finished, dropped, refused}
use Rattle.rules.specs.Grounds.{wake_grounds, start_grounds, speak_grounds, hear_grounds, drop_grounds, wake_ground, start_ground, speak_ground, hear_ground, drop_ground}
use Rattle.rules.specs.Calls.{Result, wake_rule, start_rule, speak_rule, hear_rule, drop_rule}
use Rattle.rules.specs.Tasks.{count_of}
use Rattle.rules.specs.declared.state.Task.{Task}
use Rattle.rules.specs.declared.state.Task.TheVariants.{Compare, Band}
use Rattle.rules.specs.declared.state.State.{State}

-- a call and all that it is given, beside the state
pub data Call : Type 0 where
  wake : (n side pair : ℕ) (tally : List ℕ) → Call
  start : (first : ℕ) (task : Task) (shares tapes work tally : List ℕ) → Call
  speak : (first round : ℕ) (tapes work out : List ℕ) → Call
  hear : (first round : ℕ) (tapes work incoming : List ℕ) → Call
  drop : Call

abbrev pub grounds_of : State → Call → List Ground
grounds_of s (wake n side pair tally) = wake_grounds s n side tally
grounds_of s (start first task shares tapes work tally) = start_grounds s first task shares tapes work tally
grounds_of s (speak first round tapes work out) = speak_grounds s first round tapes work out
grounds_of s (hear first round tapes work incoming) = hear_grounds s first round tapes work incoming
grounds_of s drop = drop_grounds s

-- the first ground of refusal that holds, in document 01's order for the call; 0 where none does
abbrev pub ground_of : State → Call → ℕ
ground_of s (wake n side pair tally) = wake_ground s n side tally
ground_of s (start first task shares tapes work tally) = start_ground s first task shares tapes work tally
ground_of s (speak first round tapes work out) = speak_ground s first round tapes work out
ground_of s (hear first round tapes work incoming) = hear_ground s first round tapes work incoming
ground_of s drop = drop_ground s

abbrev pub result_of : State → Call → Result
result_of s (wake n side pair tally) = wake_rule s n side pair tally
result_of s (start first task shares tapes work tally) = start_rule s first task shares tapes work tally
result_of s (speak first round tapes work out) = speak_rule s first round tapes work out
result_of s (hear first round tapes work incoming) = hear_rule s first round tapes work incoming
result_of s drop = drop_rule s

-- the buffer that the call may change, as it was lent
abbrev pub buffer_of : Call → List ℕ
buffer_of (wake n side pair tally) = tally
buffer_of (start first task shares tapes work tally) = tally
buffer_of (speak first round tapes work out) = out
buffer_of (hear first round tapes work incoming) = work
buffer_of drop = []

abbrev pub is_wake : Call → Bool
is_wake (wake n side pair tally) = true
is_wake (start first task shares tapes work tally) = false
is_wake (speak first round tapes work out) = false
is_wake (hear first round tapes work incoming) = false
is_wake drop = false

abbrev pub is_refused : Reply → Bool
is_refused (fresh k) = false
is_refused started = false
is_refused (spoke k) = false
is_refused heard = false
is_refused (finished vs) = false
is_refused dropped = false
is_refused (refused k) = true

-- those of what a start asks
abbrev pub asked_order : Task → List ℕ
asked_order (Compare count) = 16 ∷ 4 ∷ 12 ∷ []
asked_order (Band low high) = 17 ∷ 4 ∷ []

-- the grounds that the call has, in document 01's order, a start's job by job; there is no other
abbrev pub order_of : Call → List ℕ
order_of (wake n side pair tally) = 5 ∷ 2 ∷ 3 ∷ 4 ∷ []
order_of (start first task shares tapes work tally) =
    1 ∷ 5 ∷ (asked_order task ++ (chained (count_of task) (λ i. 7 ∷ 8 ∷ 15 ∷ 9 ∷ 10 ∷ []) ++ (12 ∷ [])))
order_of (speak first round tapes work out) = 1 ∷ 6 ∷ 11 ∷ 10 ∷ 12 ∷ []
order_of (hear first round tapes work incoming) = 1 ∷ 6 ∷ 11 ∷ 10 ∷ 12 ∷ 13 ∷ []
order_of drop = 1 ∷ 6 ∷ []
