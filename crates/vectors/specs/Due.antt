-- Both boxes of a job, as a round needs them.
use Rattle.std.specs.Prelude.{ℕ, ◌≡◌, List}
use Rattle.rules.specs.declared.state.Turn.TheVariants.{Speak}
use Rattle.rules.specs.declared.state.State.{State}
use Rattle.exchange.specs.Boxes.{Ready}

-- both are ready to speak in that round, and have one width and one task, box 1 and box 2
pub record Due (first round : ℕ) (s1 s2 : State) (t1 t2 w1 w2 : List ℕ) : Type 0 where
  pub box1 : Ready s1 first (Speak round) t1 w1
  pub box2 : Ready s2 first (Speak round) t2 w2
  pub width : s1.n ≡ s2.n
  pub side1 : s1.side ≡ 1
  pub side2 : s2.side ≡ 2
  pub task : s1.batch.task ≡ s2.batch.task
