-- What a state counts as. A state outside the paper's ranges counts as asleep in every call (refusal 1).
use Rattle.std.specs.Prelude.{ℕ, ◌+◌, Bool, true, false, ◌&&◌, cond, eqb, leb, ltb, get_or}
use Rattle.lists.specs.Every.{every}
use Rattle.field.specs.Width.{listed, modulus}
use Rattle.shares.specs.Side.{is_side}
use Rattle.protocol.specs.Rounds.{last_round}
use Rattle.tally.specs.Tally.{tally_fits, tapes_of}
use Rattle.rules.specs.declared.state.Turn.{Turn}
use Rattle.rules.specs.declared.state.Turn.TheVariants.{Speak, Hear}
use Rattle.rules.specs.declared.state.Phase.{Phase}
use Rattle.rules.specs.declared.state.Phase.TheVariants.{Asleep, Idle, Job}
use Rattle.rules.specs.declared.state.Batch.{Batch}
use Rattle.rules.specs.declared.state.State.{State}
use Rattle.rules.specs.Tasks.{count_of, task_fits}
use Rattle.rules.specs.Batches.{no_batch}

abbrev pub round_of : Turn → ℕ
round_of (Speak round) = round
round_of (Hear round) = round

abbrev pub round_fits : ℕ → Bool
round_fits round = leb 1 round && leb round last_round

-- 1 to 8 jobs, or a band's two with its bounds, and each one's tape number and shares
abbrev pub batch_fits : ℕ → ℕ → Batch → Bool
batch_fits n tally b =
    task_fits n b.task
    && every (count_of b.task) (λ i. ltb (b.first + i) (tapes_of tally) && ltb (get_or b.x i 0) (modulus n) && ltb (get_or b.y i 0) (modulus n))

-- outside a job what a state holds of one is not looked at
abbrev pub phase_fits : ℕ → ℕ → Batch → Phase → Bool
phase_fits n tally b Asleep = true
phase_fits n tally b Idle = true
phase_fits n tally b (Job turn) = round_fits (round_of turn) && batch_fits n tally b

unfoldable pub in_range : State → Bool
in_range s = listed s.n && is_side s.side && tally_fits s.tally && phase_fits s.n s.tally s.batch s.phase

-- the phase, or asleep for a state outside the ranges
unfoldable pub mode_of : State → Phase
mode_of s = cond (in_range s) s.phase Asleep

abbrev pub is_asleep : Phase → Bool
is_asleep Asleep = true
is_asleep Idle = false
is_asleep (Job turn) = false

abbrev pub in_job : Phase → Bool
in_job Asleep = false
in_job Idle = false
in_job (Job turn) = true

-- the turn due is this call's, with this first number and round
abbrev pub same_turn : Turn → Turn → Bool
same_turn (Speak a) (Speak b) = eqb a b
same_turn (Speak a) (Hear b) = false
same_turn (Hear a) (Speak b) = false
same_turn (Hear a) (Hear b) = eqb a b

-- `own` is the first number of the open job
abbrev pub is_due : Phase → ℕ → ℕ → Turn → Bool
is_due Asleep own first turn = false
is_due Idle own first turn = false
is_due (Job due) own first turn = eqb first own && same_turn turn due

-- the state in another phase with another job
abbrev pub in_phase : State → Phase → Batch → State
in_phase s phase batch = record { n = s.n; side = s.side; pair = s.pair; tally = s.tally; phase = phase; batch = batch }

-- the state after a cut, as at first
abbrev pub asleep_state : State → State
asleep_state s = in_phase s Asleep no_batch
