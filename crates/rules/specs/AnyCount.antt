-- OneByOne's premise is met with every count and every band, at every width and both boxes: on plain tapes, every share and every word heard 0.
use Rattle.std.specs.Prelude.{ℕ, ◌*◌, ◌≡◌, true, replicate}
use Rattle.lists.specs.Joined.{chained}
use Rattle.field.specs.Width.{listed}
use Rattle.shares.specs.Side.{is_side}
use Rattle.tape.specs.Plain.{plain_tape}
use Rattle.protocol.specs.Sizes.{most_jobs, round_for, work_for}
use Rattle.tally.specs.Tally.{mark_at}
use Rattle.rules.specs.Tasks.{count_of, task_fits}
use Rattle.rules.specs.Batches.{no_batch}
use Rattle.rules.specs.OneByOne.{Left, Lent, Goes}
use Rattle.rules.specs.declared.state.Task.{Task}
use Rattle.rules.specs.declared.state.Task.TheVariants.{Compare, Band}
use Rattle.rules.specs.declared.state.Phase.TheVariants.{Idle}

-- a box awake, with eight fresh tapes
abbrev pub awake_box : ℕ → ℕ → Left
awake_box n side =
    record {
      state = record { n = n; side = side; pair = 0; tally = mark_at most_jobs; phase = Idle; batch = no_batch };
      work = replicate (work_for n most_jobs) 0;
      tally = replicate (mark_at most_jobs) 255;
    }

-- how long the list of shares is: two for each comparison, one for a band
abbrev pub shares_for : Task → ℕ
shares_for (Compare count) = 2 * count
shares_for (Band low high) = 1

-- such jobs from tape 0 on
abbrev pub plain_jobs : ℕ → ℕ → Task → Lent
plain_jobs n side task =
    record {
      first = 0;
      task = task;
      shares = replicate (shares_for task) 0;
      tapes = chained (count_of task) (plain_tape n 0 side);
      out = λ round. replicate (round_for n (count_of task) round) 0;
      incoming = λ round. replicate (round_for n (count_of task) round) 0;
    }

abbrev pub AnyCount : Type 0
AnyCount =
    (n side : ℕ) (task : Task) → listed n ≡ true → is_side side ≡ true → task_fits n task ≡ true → Goes (awake_box n side) (plain_jobs n side task)
