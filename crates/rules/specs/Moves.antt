-- How a call moves the box: what it finds, answers and leaves where it is not refused, and what a start that takes jobs does.
use Rattle.std.specs.Prelude.{ℕ, ◌+◌, ◌*◌, ◌<◌, ◌≤◌, ◌≡◌, true, false, List, ◌⊎◌, length, get_or}
use Rattle.field.specs.Width.{modulus}
use Rattle.protocol.specs.Rounds.{last_round}
use Rattle.protocol.specs.Sizes.{round_for}
use Rattle.rules.specs.Answers.{Reply, fresh, started, spoke, heard, finished, dropped}
use Rattle.tally.specs.Tally.{mark_at, is_fresh, late, fresh_count}
use Rattle.rules.specs.Modes.{mode_of, is_asleep}
use Rattle.rules.specs.Tasks.{count_of, pairs_of}
use Rattle.rules.specs.Batches.{no_batch, batch_of}
use Rattle.rules.specs.Calls.{Result, start_rule}
use Rattle.rules.specs.AnyCall.{Call, wake, start, speak, hear, drop}
use Rattle.rules.specs.declared.state.Turn.{Turn}
use Rattle.rules.specs.declared.state.Turn.TheVariants.{Speak, Hear}
use Rattle.rules.specs.declared.state.Task.{Task}
use Rattle.rules.specs.declared.state.Task.TheVariants.{Compare, Band}
use Rattle.rules.specs.declared.state.Phase.{Phase}
use Rattle.rules.specs.declared.state.Phase.TheVariants.{Asleep, Idle, Job}
use Rattle.rules.specs.declared.state.Batch.{Batch}
use Rattle.rules.specs.declared.state.State.{State}

-- what a call that is not refused finds, answers and leaves, in a box of width n and that side: the phase, and the jobs of the start that opened it. They keep their
-- numbers and their shares to their end, and where no job is open nothing of one is left
pub data Moves (n own : ℕ) : Phase → Batch → Call → Reply → Phase → Batch → Type 0 where
  wakes_up : {b : Batch} {m side pair : ℕ} {tally : List ℕ} → Moves n own Asleep b (wake m side pair tally) (fresh (fresh_count tally)) Idle no_batch
  opens : {b : Batch} {first : ℕ} {task : Task} {shares tapes work tally : List ℕ}
      → Moves n own Idle b (start first task shares tapes work tally) started (Job (Speak 1)) (batch_of first task (pairs_of own task shares))
  speaks : {b : Batch} {round : ℕ} {tapes work out : List ℕ}
      → Moves n own (Job (Speak round)) b (speak b.first round tapes work out) (spoke (round_for n (count_of b.task) round)) (Job (Hear round)) b
  hears : {b : Batch} {round : ℕ} {tapes work incoming : List ℕ} → round < last_round
      → Moves n own (Job (Hear round)) b (hear b.first round tapes work incoming) heard (Job (Speak (round + 1))) b
  ends : {b : Batch} {answers tapes work incoming : List ℕ}
      → Moves n own (Job (Hear last_round)) b (hear b.first last_round tapes work incoming) (finished answers) Idle no_batch
  drops : {b : Batch} {turn : Turn} → Moves n own (Job turn) b drop dropped Idle no_batch

-- comparisons have two shares each in the list, and a band has bounds c1 < c2 < p
abbrev pub Asked : ℕ → Task → List ℕ → Type 0
Asked n (Compare count) shares = length shares ≡ 2 * count
Asked n (Band low high) shares = (low < high) × (high < modulus n)

-- a start takes jobs: the state is awake, what is asked is as above, every job's tape is fresh and not late in a lent tally of the state's length, and the
-- tally that is left differs in the four bytes of each of these tapes alone
pub record Opens (s : State) (first : ℕ) (task : Task) (shares lent : List ℕ) (result : Result) : Type 0 where
  pub awake : is_asleep (mode_of s) ≡ false
  pub same_length : length lent ≡ s.tally
  pub asked : Asked s.n task shares
  pub was_fresh : (i : ℕ) → i < count_of task → is_fresh lent (first + i) ≡ true
  pub not_late : (i : ℕ) → i < count_of task → late lent (first + i) ≡ false
  pub is_spent : (i : ℕ) → i < count_of task → is_fresh result.buffer (first + i) ≡ false
  pub left_length : length result.buffer ≡ length lent
  pub others : (k : ℕ) → (k < mark_at first) ⊎ (mark_at (first + count_of task) ≤ k) → get_or result.buffer k 0 ≡ get_or lent k 0
  -- the job is on those tapes, with the shares of x and y that the lent ones give
  pub phase : mode_of result.state ≡ Job (Speak 1)
  pub batch : result.state.batch ≡ batch_of first task (pairs_of s.side task shares)

-- only a start takes jobs
abbrev pub TakesJob : State → Call → Type 0
TakesJob s (wake n side pair tally) = ⊥
TakesJob s (start first task shares tapes work tally) = Opens s first task shares tally (start_rule s first task shares tapes work tally)
TakesJob s (speak first round tapes work out) = ⊥
TakesJob s (hear first round tapes work incoming) = ⊥
TakesJob s drop = ⊥
