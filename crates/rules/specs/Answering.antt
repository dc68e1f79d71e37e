-- Demand 1 over the rules: what each of the calls answers, refuses and leaves as it was.
use Rattle.std.specs.Prelude.{ℕ, ◌≡◌, true, false, List, length}
use Rattle.field.specs.Width.{listed, among}
use Rattle.shares.specs.Side.{is_side}
use Rattle.refusals.specs.Grounds.{earliest_of, numbers_of}
use Rattle.rules.specs.Answers.{refused}
use Rattle.tally.specs.Tally.{tally_fits}
use Rattle.rules.specs.Modes.{in_range, mode_of, is_asleep, in_job, in_phase, asleep_state}
use Rattle.rules.specs.AnyCall.{Call, wake, grounds_of, ground_of, result_of, buffer_of, is_wake, is_refused, order_of}
use Rattle.rules.specs.Moves.{Moves, TakesJob}
use Rattle.rules.specs.declared.state.State.{State}

-- every outcome is an answer, or a refusal with its number
pub record Answered (s : State) (call : Call) : Type 0 where
  -- the ground is the first that holds of the call's grounds
  pub first : ground_of s call ≡ earliest_of (grounds_of s call)
  -- these stand in document 01's order
  pub order : numbers_of (grounds_of s call) ≡ order_of call
  -- so a refusal's number is one of that order
  pub numbered : (ground_of s call ≡ 0 → ⊥) → among (ground_of s call) (order_of call) ≡ true
  -- where no ground holds, the reply is an answer
  pub answers : ground_of s call ≡ 0 → is_refused (result_of s call).reply ≡ false
  -- where one holds, the reply is the refusal with its number
  pub refuses : (ground_of s call ≡ 0 → ⊥) → (result_of s call).reply ≡ refused (ground_of s call)

-- an outcome that is a refusal leaves the state and the buffer as they were
pub record Unchanged (s : State) (call : Call) : Type 0 where
  pub same_state : is_refused (result_of s call).reply ≡ true → (result_of s call).state ≡ s
  pub same_buffer : is_refused (result_of s call).reply ≡ true → (result_of s call).buffer ≡ buffer_of call

-- only a wake goes from asleep to awake
pub record Waking (s : State) (call : Call) : Type 0 where
  -- asleep, every other call is refused with 1
  pub asleep_refuses : is_asleep (mode_of s) ≡ true → is_wake call ≡ false → ground_of s call ≡ 1
  -- asleep, only wake's outcome can be awake
  pub only_wake : is_asleep (mode_of s) ≡ true → is_asleep (mode_of (result_of s call).state) ≡ false → is_wake call ≡ true
  -- awake, a wake is refused with 5
  pub awake_refuses : is_asleep (mode_of s) ≡ false → is_wake call ≡ true → ground_of s call ≡ 5

-- a state outside the ranges counts as asleep in all calls
pub record Outside (s : State) (call : Call) : Type 0 where
  pub counts : in_range s ≡ false → is_asleep (mode_of s) ≡ true
  -- each call has the ground that it has where the state is asleep
  pub same_ground : in_range s ≡ false → ground_of s call ≡ ground_of (asleep_state s) call

pub record Answering : Type 0 where
  pub answered : (s : State) (call : Call) → Answered s call
  pub unchanged : (s : State) (call : Call) → Unchanged s call
  pub waking : (s : State) (call : Call) → Waking s call
  -- asleep, a wake with a listed width, a side and a tally in range is taken, and its outcome is awake
  pub wakes : (s : State) (n side pair : ℕ) (tally : List ℕ) → is_asleep (mode_of s) ≡ true
      → listed n ≡ true → is_side side ≡ true → tally_fits (length tally) ≡ true
      → is_asleep (mode_of (result_of s (wake n side pair tally)).state) ≡ false
  -- every call that is not refused is one of these moves
  pub moves : (s : State) (call : Call) → ground_of s call ≡ 0
      → Moves s.n s.side (mode_of s) s.batch call (result_of s call).reply (mode_of (result_of s call).state) (result_of s call).state.batch
  -- only wake sets the width, the side, the pair number and the tally's length
  pub keeps : (s : State) (call : Call) → is_wake call ≡ false → (result_of s call).state ≡ in_phase s (result_of s call).state.phase (result_of s call).state.batch
  -- an outcome in a job, from a state not in one, comes from such a start alone
  pub takes_job : (s : State) (call : Call) → in_job (mode_of s) ≡ false → in_job (mode_of (result_of s call).state) ≡ true → TakesJob s call
  pub outside : (s : State) (call : Call) → Outside s call
