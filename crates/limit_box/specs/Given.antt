-- What the checks of a speak and a hear show of a state in a job, and of the tapes that it was lent.
use Rattle.std.specs.Prelude.{ℕ, ◌<◌, ◌≡◌, true, List, length, get_or}
use Rattle.field.specs.Width.{listed, modulus}
use Rattle.shares.specs.Side.{is_side}
use Rattle.tape.specs.Order.{Readable}
use Rattle.protocol.specs.Sizes.{count_fits, tape_for}
use Rattle.rules.specs.Tasks.{count_of}
use Rattle.rules.specs.Batches.{tape_part}
use Rattle.rules.specs.declared.state.State.{State}

pub record Given (s : State) (tapes : List ℕ) : Type 0 where
  pub width : listed s.n ≡ true
  pub sided : is_side s.side ≡ true
  pub counted : count_fits (count_of s.batch.task) ≡ true
  pub x_fits : (i : ℕ) → i < count_of s.batch.task → get_or s.batch.x i 0 < modulus s.n
  pub y_fits : (i : ℕ) → i < count_of s.batch.task → get_or s.batch.y i 0 < modulus s.n
  pub long : length tapes ≡ tape_for s.n (count_of s.batch.task)
  pub readable : (i : ℕ) → i < count_of s.batch.task → Readable s.n (tape_part s.n tapes i)
