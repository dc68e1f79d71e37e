-- How a box comes to a job: it wakes and starts.
use Rattle.std.specs.Prelude.{ℕ, cond, List, eqb}
use Rattle.rules.specs.Answers.{Reply, fresh, started, spoke, heard, finished, dropped, refused}
use Rattle.rules.specs.Batches.{no_batch}
use Rattle.rules.specs.Calls.{Result, wake_rule, start_rule}
use Rattle.rules.specs.declared.state.Phase.TheVariants.{Asleep}
use Rattle.rules.specs.declared.state.Task.{Task}
use Rattle.rules.specs.declared.state.State.{State}

-- a box at first
abbrev pub first_state : State
first_state = record { n = 0; side = 0; pair = 0; tally = 0; phase = Asleep; batch = no_batch }

-- the number of a refusal, and 0 for any other reply
abbrev pub refusal_of : Reply → ℕ
refusal_of (fresh k) = 0
refusal_of started = 0
refusal_of (spoke k) = 0
refusal_of heard = 0
refusal_of (finished vs) = 0
refusal_of dropped = 0
refusal_of (refused k) = k

-- the start's result, or the wake's where that is refused
unfoldable pub begun : State → ℕ → ℕ → ℕ → ℕ → Task → List ℕ → List ℕ → List ℕ → List ℕ → Result
begun s n side pair first task shares tapes work tally =
    let woken = wake_rule s n side pair tally in
    cond (eqb (refusal_of woken.reply) 0) (start_rule woken.state first task shares tapes work tally) woken
