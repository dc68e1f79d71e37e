-- What a speak and a hear that are not refused hand on to the rounds' work.
use Prim.Native.Nat.{ℕ, ◌+◌}
use mathlib.Core.List.{List}
use Rattle.tape.proofs.Orders.{readable}
use Rattle.rules.specs.Batches.{tape_part}
use Rattle.rules.specs.declared.state.Turn.{Turn}
use Rattle.rules.specs.declared.state.State.{State}
use Rattle.rules.proofs.Passed.{TurnPassed}
use Rattle.limit_box.specs.Given.{Given}

pub given : {s : State} {first : ℕ} {turn : Turn} {tapes : List ℕ} → TurnPassed s first turn tapes → Given s tapes
given {s} {first} {turn} {tapes} go =
    record {
      width = go.sound.width;
      sided = go.sound.sided;
      counted = go.range.counted;
      x_fits = go.range.x_fits;
      y_fits = go.range.y_fits;
      long = go.long;
      readable = λ i less. readable s.n s.pair s.side (s.batch.first + i) (tape_part s.n tapes i) (go.ordered i less);
    }
