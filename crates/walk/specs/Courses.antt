-- Jobs of both boxes step by step: each step is the rule of its call at each box.
use Rattle.std.specs.Prelude.{ℕ, ◌+◌, ◌≡◌, List, [], ◌∷◌, take}
use Rattle.lists.specs.Tabulate.{tabulate}
use Rattle.protocol.specs.Sizes.{round_for}
use Rattle.rules.specs.Tasks.{count_of}
use Rattle.rules.specs.Calls.{wake_rule, start_rule, speak_rule, hear_rule}
use Rattle.rules.specs.declared.state.Task.{Task}
use Rattle.rules.specs.declared.state.Task.TheVariants.{Compare}
use Rattle.exchange.specs.Opening.{first_state}
use Rattle.walk.specs.Walk.{box_tape, fresh_tally, After}
use Rattle.walk.specs.JobSteps.{step_at}
use Rattle.walk.specs.declared.job_steps.Step.{Step}
use Rattle.walk.specs.declared.job_steps.Step.TheVariants.{Wake, Start, Speak, Hear}
use Rattle.walk.specs.declared.memory.BoxMemory.{BoxMemory}
use Rattle.walk.specs.declared.progress.Job.{Job}
use Rattle.walk.specs.declared.progress.Pair.{Pair}

-- what a job is: its first number, and what each box is asked, with the shares and the tapes that it is lent. Both boxes are asked the same, but where one
-- hears the words of another kind of job
pub record Asked : Type 0 where
  pub first : ℕ
  pub task1 : Task
  pub task2 : Task
  pub shares1 : List ℕ
  pub shares2 : List ℕ
  pub tapes1 : List ℕ
  pub tapes2 : List ℕ

abbrev pub asked : ℕ → Task → Task → List ℕ → List ℕ → List ℕ → List ℕ → Asked
asked first task1 task2 shares1 shares2 tapes1 tapes2 =
    record { first = first; task1 = task1; task2 = task2; shares1 = shares1; shares2 = shares2; tapes1 = tapes1; tapes2 = tapes2 }

abbrev pub asked_of : Job → Asked
asked_of j = asked j.first j.task1 j.task2 j.shares1.now j.shares2.now j.tapes1.now j.tapes2.now

-- the job on tape 0 with plain tapes, x 5 + 5 and y 1 + 3
abbrev pub plain_job : Asked
plain_job = asked 0 (Compare 1) (Compare 1) (5 ∷ 1 ∷ []) (5 ∷ 3 ∷ []) (box_tape 1 0) (box_tape 2 0)

-- ---- one box

-- it has woken
abbrev pub Woke : ℕ → BoxMemory → Type 0
Woke side b =
    After b b.tally (wake_rule first_state 3 side 5 fresh_tally) × (b.work ≡ tabulate 300 (λ k. 6)) × (b.out ≡ tabulate 99 (λ k. 6))

-- before and after a start, a speak and a hear: what no rule is of stays
abbrev pub Started : ℕ → Task → List ℕ → List ℕ → BoxMemory → BoxMemory → Type 0
Started first task shares tapes b a =
    After a a.tally (start_rule b.state first task shares tapes b.work b.tally) × (a.work ≡ b.work) × (a.out ≡ b.out)

abbrev pub Spoke : ℕ → ℕ → List ℕ → BoxMemory → BoxMemory → Type 0
Spoke first round tapes b a =
    After a a.out (speak_rule b.state first round tapes b.work b.out) × (a.tally ≡ b.tally) × (a.work ≡ b.work)

abbrev pub Heard : ℕ → ℕ → List ℕ → List ℕ → BoxMemory → BoxMemory → Type 0
Heard first round tapes incoming b a =
    After a a.work (hear_rule b.state first round tapes b.work incoming) × (a.tally ≡ b.tally) × (a.out ≡ b.out)

-- ---- both

abbrev pub Woken : Pair → Type 0
Woken p = Woke 1 p.box1 × Woke 2 p.box2

-- a step; each hears the first words of the other's out, as many as the message has
abbrev pub Stepped : Asked → Step → Pair → Pair → Type 0
Stepped j Wake b a = a ≡ b
Stepped j Start b a =
    Started j.first j.task1 j.shares1 j.tapes1 b.box1 a.box1 × Started j.first j.task2 j.shares2 j.tapes2 b.box2 a.box2
Stepped j (Speak round) b a =
    Spoke j.first round j.tapes1 b.box1 a.box1 × Spoke j.first round j.tapes2 b.box2 a.box2
Stepped j (Hear round) b a =
    Heard j.first round j.tapes1 (take (round_for 3 (count_of j.task2) round) b.box2.out) b.box1 a.box1
    × Heard j.first round j.tapes2 (take (round_for 3 (count_of j.task1) round) b.box1.out) b.box2 a.box2

-- so many steps of a job
pub data Course (j : Asked) (from : Pair) : ℕ → Pair → Type 0 where
  none : Course j from 0 from
  next : {steps : ℕ} {b a : Pair} → Course j from steps b → Stepped j (step_at (steps + 1)) b a → Course j from (steps + 1) a

-- the same from such a pair
pub record CourseFrom (Start : Pair → Type 0) (j : Asked) (steps : ℕ) (p : Pair) : Type 0 where
  pub from : Pair
  pub starts : Start from
  pub course : Course j from steps p
