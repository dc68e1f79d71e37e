-- How a job is known: by its first tape number, its width and what its start asks, which is how many comparisons it is (document 02, P9), or that it is a band,
-- with its bounds (P10). A joined start opens one job in this sense, and so does a band's.
use Rattle.std.specs.Prelude.{ℕ}
use Rattle.rules.specs.Modes.{mode_of}
use Rattle.rules.specs.declared.state.Task.{Task}
use Rattle.rules.specs.declared.state.Task.TheVariants.{Compare}
use Rattle.rules.specs.declared.state.Phase.{Phase}
use Rattle.rules.specs.declared.state.Phase.TheVariants.{Asleep, Idle, Job}
use Rattle.rules.specs.declared.state.State.{State}

pub record Key : Type 0 where
  pub first : ℕ
  pub task : Task
  pub width : ℕ

-- every key is made here, so what a job is known by is one record and this line
abbrev pub job_key : ℕ → Task → ℕ → Key
job_key first task n = record { first = first; task = task; width = n }

-- no job's
abbrev pub no_key : ℕ → Key
no_key n = job_key 0 (Compare 0) n

-- the job that a speak or a hear names by its first number
abbrev pub key_at : State → ℕ → Key
key_at s first = job_key first s.batch.task s.n

-- the job that is open, and nothing of account where none is
abbrev pub key_of : State → Phase → Key
key_of s Asleep = no_key s.n
key_of s Idle = no_key s.n
key_of s (Job turn) = key_at s s.batch.first

abbrev pub open_key : State → Key
open_key s = key_of s (mode_of s)
