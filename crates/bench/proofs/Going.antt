-- A job goes where all that both boxes are given is as it must be: neither is refused, and their numbers are marked.
use Prim.Native.Nat.{ℕ, ◌+◌, ◌<◌, ◌≤◌}
use mathlib.Core.Path.{◌≡◌, refl, ap}
use mathlib.Core.Bool.{true, false}
use native.Mathlib.Omega.{arith}
use lib.ListN.{length}
use Rattle.field.specs.Width.{listed, modulus}
use Rattle.shares.specs.Side.{is_side}
use Rattle.tape.specs.Order.{in_order}
use Rattle.protocol.specs.Sizes.{tape_for, work_for}
use Rattle.tally.specs.Tally.{tally_fits, tapes_of, is_fresh, late, first_marks}
use Rattle.rules.specs.Tasks.{count_of, task_fits, pairs_of}
use Rattle.rules.specs.Moves.{Asked}
use Rattle.rules.specs.Batches.{no_batch, x_in, y_in, tape_part}
use Rattle.rules.specs.Calls.{Result, wake_rule, start_rule}
use Rattle.rules.specs.Grounds.{wake_ground}
use Rattle.rules.specs.Modes.{in_range, mode_of, is_asleep, in_job}
use Rattle.rules.specs.declared.state.Phase.TheVariants.{Idle}
use Rattle.rules.specs.declared.state.Task.{Task}
use Rattle.rules.specs.declared.state.State.{State}
use Rattle.rules.proofs.Tasks.{counted}
use Rattle.rules.proofs.Goes.{start_goes}
use Rattle.rules.proofs.Passed.{StartPassed}
use Rattle.exchange.specs.Jobs.{Lent, comes, roomy, job_refusal, job_of}
use Rattle.exchange.specs.Opening.{first_state, refusal_of, begun}
use Rattle.exchange.proofs.Begun.{awake}

-- ---- one box

-- what it is given
pub record Fit (n side pair first : ℕ) (task : Task) (l : Lent) : Type 0 where
  pub width : listed n ≡ true
  pub sided : is_side side ≡ true
  pub tallied : tally_fits (length l.tally) ≡ true
  pub fits : task_fits n task ≡ true
  pub asked : Asked n task l.shares
  pub numbered : first + count_of task ≤ tapes_of (length l.tally)
  pub fresh : (i : ℕ) → i < count_of task → is_fresh l.tally (first + i) ≡ true
  pub in_time : (i : ℕ) → i < count_of task → late l.tally (first + i) ≡ false
  pub x_fits : (i : ℕ) → i < count_of task → x_in (pairs_of side task l.shares) i < modulus n
  pub y_fits : (i : ℕ) → i < count_of task → y_in (pairs_of side task l.shares) i < modulus n
  pub long : length l.tapes ≡ tape_for n (count_of task)
  pub ordered : (i : ℕ) → i < count_of task → in_order n pair side (first + i) (tape_part n l.tapes i) ≡ true
  pub room : work_for n (count_of task) ≤ length l.work

zero_unlisted : listed 0 ≡ false
unfolding listed
zero_unlisted = refl

asleep : is_asleep (mode_of first_state) ≡ true
unfolding mode_of in_range
asleep = rw zero_unlisted refl

module _ {n side pair first : ℕ} {task : Task} {l : Lent} (f : Fit n side pair first task l) where
  abbrev idle : State
  idle = awake n side pair l.tally Idle no_batch

  stays_idle : mode_of idle ≡ Idle
  unfolding mode_of in_range
  stays_idle = rw (f.width, f.sided, f.tallied) refl

  passed : StartPassed idle first task l.shares l.tapes l.work l.tally
  passed =
      record {
        awake = ap is_asleep stays_idle;
        idle = ap in_job stays_idle;
        fits = f.fits;
        counted = counted n task f.fits;
        same_tally = refl;
        asked = f.asked;
        numbered = λ i less. omega (arith, f.numbered, less);
        fresh = f.fresh;
        in_time = f.in_time;
        x_fits = f.x_fits;
        y_fits = f.y_fits;
        long = f.long;
        ordered = f.ordered;
        room = f.room;
      }

  -- it wakes, and the start is taken
  record Gone (r : Result) : Type 0 where
    none : refusal_of r.reply ≡ 0
    marked : r.buffer ≡ first_marks l.tally first (count_of task)

  comes_in : Gone (comes n side pair first task l)
  unfolding begun wake_rule start_rule wake_ground
  comes_in =
      let goes = start_goes idle first task l.shares l.tapes l.work l.tally passed in
      record {
        none = rw (asleep, f.width, f.sided, f.tallied, goes) refl;
        marked = rw (asleep, f.width, f.sided, f.tallied, goes) refl;
      }

-- ---- both

pub record JobGone (n pair first : ℕ) (task : Task) (box1 box2 : Lent) : Type 0 where
  pub none : (job_of n pair first task box1 box2).refusal ≡ 0
  pub marked1 : (job_of n pair first task box1 box2).tally1 ≡ first_marks box1.tally first (count_of task)
  pub marked2 : (job_of n pair first task box1 box2).tally2 ≡ first_marks box2.tally first (count_of task)

pub job_goes : (n pair first : ℕ) (task : Task) (box1 box2 : Lent) → Fit n 1 pair first task box1 → Fit n 2 pair first task box2
    → roomy n task box1.out box2.out ≡ true → JobGone n pair first task box1 box2
unfolding job_of job_refusal
job_goes n pair first task box1 box2 f1 f2 fits =
    let c1 = comes_in f1 in
    let c2 = comes_in f2 in
    record {
      none = rw (c1.none, c2.none, fits) refl;
      marked1 = c1.marked;
      marked2 = rw c1.none c2.marked;
    }
