-- A state that is not asleep is in range and counts as what it is; a turn that is due is that of its jobs.
use Prim.Native.Nat.{ℕ, ◌+◌, ◌<◌, ◌≤◌}
use mathlib.Core.Path.{◌≡◌, refl, subst}
use mathlib.Core.Bool.{Bool, true, false, ◌&&◌, cond, true≢false, false≢true}
use lib.Dec.{eqb, leb, ltb}
use lib.ListN.{get_or}
use borrow.Author.Tests.{ltb-true, leb-true, eqb-true}
use Rattle.lists.specs.Every.{every}
use Rattle.lists.proofs.Tests.{and_left, and_right, and_both}
use Rattle.lists.proofs.Every.{every_at}
use Rattle.field.specs.Width.{listed, modulus}
use Rattle.shares.specs.Side.{is_side}
use Rattle.protocol.specs.Rounds.{last_round}
use Rattle.protocol.specs.Sizes.{count_fits}
use Rattle.tally.specs.Tally.{tally_fits, tapes_of}
use Rattle.rules.specs.Tasks.{count_of, task_fits}
use Rattle.rules.specs.Modes.{round_of, round_fits, batch_fits, phase_fits, in_range, mode_of, is_asleep, is_due, same_turn, in_phase}
use Rattle.rules.specs.declared.state.Turn.{Turn}
use Rattle.rules.specs.declared.state.Turn.TheVariants.{Speak, Hear}
use Rattle.rules.specs.declared.state.Phase.{Phase}
use Rattle.rules.specs.declared.state.Phase.TheVariants.{Asleep, Idle, Job}
use Rattle.rules.specs.declared.state.Batch.{Batch}
use Rattle.rules.specs.declared.state.State.{State}
use Rattle.rules.proofs.Tasks.{counted}

pub awake_range : (s : State) → is_asleep (mode_of s) ≡ false → in_range s ≡ true
unfolding mode_of
awake_range s e = go (in_range s) e
  where
    go : (t : Bool) → is_asleep (cond t s.phase Asleep) ≡ false → t ≡ true
    go true h = refl
    go false h = absurd (true≢false h)

pub range_mode : (s : State) → in_range s ≡ true → mode_of s ≡ s.phase
unfolding mode_of
range_mode s e = rw e

pub awake_mode : (s : State) → is_asleep (mode_of s) ≡ false → mode_of s ≡ s.phase
awake_mode s e = range_mode s (awake_range s e)

-- the tests of a state in range
pub record Ranged (s : State) : Type 0 where
  pub width : listed s.n ≡ true
  pub sided : is_side s.side ≡ true
  pub tallied : tally_fits s.tally ≡ true
  pub phased : phase_fits s.n s.tally s.batch s.phase ≡ true

pub ranged : (s : State) → in_range s ≡ true → Ranged s
unfolding in_range
ranged s e =
    let a = and_left (listed s.n && is_side s.side && tally_fits s.tally) (phase_fits s.n s.tally s.batch s.phase) e in
    let b = and_left (listed s.n && is_side s.side) (tally_fits s.tally) a in
    record {
      width = and_left (listed s.n) (is_side s.side) b;
      sided = and_right (listed s.n) (is_side s.side) b;
      tallied = and_right (listed s.n && is_side s.side) (tally_fits s.tally) a;
      phased = and_right (listed s.n && is_side s.side && tally_fits s.tally) (phase_fits s.n s.tally s.batch s.phase) e;
    }

pub awake_listed : (s : State) → is_asleep (mode_of s) ≡ false → listed s.n ≡ true
awake_listed s e = (ranged s (awake_range s e)).width

-- ---- a turn that is due: the phase is a job with that turn, and the first number is its own

pub record Due (s : State) (first : ℕ) (turn : Turn) : Type 0 where
  pub job : s.phase ≡ Job turn
  pub first_is : first ≡ s.batch.first

turn_same : (a b : Turn) → same_turn a b ≡ true → a ≡ b
turn_same (Speak a) (Speak b) e = rw (eqb-true a b e)
turn_same (Speak a) (Hear b) e = absurd (false≢true e)
turn_same (Hear a) (Speak b) e = absurd (false≢true e)
turn_same (Hear a) (Hear b) e = rw (eqb-true a b e)

pub due_job : (s : State) (first : ℕ) (turn : Turn) → is_asleep (mode_of s) ≡ false → is_due (mode_of s) s.batch.first first turn ≡ true → Due s first turn
due_job s first turn awake e = go s.phase refl (rw (awake_mode s awake) at e)
  where
    own : ℕ
    own = s.batch.first

    go : (p : Phase) → s.phase ≡ p → is_due p own first turn ≡ true → Due s first turn
    go Asleep q h = absurd (false≢true h)
    go Idle q h = absurd (false≢true h)
    go (Job due) q h =
        let same = turn_same turn due (and_right (eqb first own) (same_turn turn due) h) in
        record { job = rw same q; first_is = eqb-true first own (and_left (eqb first own) (same_turn turn due) h) }

-- ---- jobs in range

-- the turn is of one of the rounds, the numbers are the tally's, the shares are below p
pub record JobRange (s : State) (turn : Turn) : Type 0 where
  pub in_rounds : round_fits (round_of turn) ≡ true
  pub last : round_of turn ≤ last_round
  pub fits : task_fits s.n s.batch.task ≡ true
  pub counted : count_fits (count_of s.batch.task) ≡ true
  pub numbers : (i : ℕ) → i < count_of s.batch.task → s.batch.first + i < tapes_of s.tally
  pub x_fits : (i : ℕ) → i < count_of s.batch.task → get_or s.batch.x i 0 < modulus s.n
  pub y_fits : (i : ℕ) → i < count_of s.batch.task → get_or s.batch.y i 0 < modulus s.n

pub job_range : (s : State) {turn : Turn} → is_asleep (mode_of s) ≡ false → s.phase ≡ Job turn → JobRange s turn
job_range s {turn} awake job =
    record {
      in_rounds = round;
      last = leb-true (round_of turn) last_round (and_right (leb 1 (round_of turn)) (leb (round_of turn) last_round) round);
      fits = tasked;
      counted = counted s.n b.task tasked;
      numbers = λ i less. ltb-true (b.first + i) (tapes_of s.tally) (and_left (number i) (x i) (and_left (number i && x i) (y i) (one i less)));
      x_fits = λ i less. ltb-true (get_or b.x i 0) (modulus s.n) (and_right (number i) (x i) (and_left (number i && x i) (y i) (one i less)));
      y_fits = λ i less. ltb-true (get_or b.y i 0) (modulus s.n) (and_right (number i && x i) (y i) (one i less));
    }
  where
    b : Batch
    b = s.batch

    number : ℕ → Bool
    number i = ltb (b.first + i) (tapes_of s.tally)

    x : ℕ → Bool
    x i = ltb (get_or b.x i 0) (modulus s.n)

    y : ℕ → Bool
    y i = ltb (get_or b.y i 0) (modulus s.n)

    fits : round_fits (round_of turn) && batch_fits s.n s.tally b ≡ true
    fits = subst (λ (p : Phase). phase_fits s.n s.tally b p ≡ true) job (ranged s (awake_range s awake)).phased

    round : round_fits (round_of turn) ≡ true
    round = and_left (round_fits (round_of turn)) (batch_fits s.n s.tally b) fits

    batch : batch_fits s.n s.tally b ≡ true
    batch = and_right (round_fits (round_of turn)) (batch_fits s.n s.tally b) fits

    tasked : task_fits s.n b.task ≡ true
    tasked = and_left (task_fits s.n b.task) (every (count_of b.task) (λ i. number i && x i && y i)) batch

    one : (i : ℕ) → i < count_of b.task → number i && x i && y i ≡ true
    one = every_at (count_of b.task) (λ i. number i && x i && y i) (and_right (task_fits s.n b.task) (every (count_of b.task) (λ i. number i && x i && y i)) batch)

-- ---- the state in another phase

-- a state in range counts as in a phase that fits it
pub phase_mode : (s : State) (phase : Phase) (batch : Batch) → in_range s ≡ true → phase_fits s.n s.tally batch phase ≡ true
    → mode_of (in_phase s phase batch) ≡ phase
unfolding mode_of in_range
phase_mode s phase batch e fits =
    let r = ranged s e in
    rw (r.width, r.sided, r.tallied, fits)

-- the jobs with another turn
pub turned_mode : (s : State) {turn : Turn} (next : Turn) → round_fits (round_of next) ≡ true → in_range s ≡ true → s.phase ≡ Job turn
    → mode_of (in_phase s (Job next) s.batch) ≡ Job next
turned_mode s {turn} next fits e job =
    let phased = subst (λ (p : Phase). phase_fits s.n s.tally s.batch p ≡ true) job (ranged s e).phased in
    phase_mode s (Job next) s.batch e (and_both fits (and_right (round_fits (round_of turn)) (batch_fits s.n s.tally s.batch) phased))
