-- The two boxes of a job, box 1's words before box 2's, by the protocol's exchange of each comparison.
use Rattle.std.specs.Prelude.{ℕ, ◌<◌, ◌≤◌, ◌≡◌, true, List, length}
use Rattle.protocol.specs.Sizes.{tape_for, work_for}
use Rattle.protocol.specs.Exchange.{Both, exchanged, answer_own, answer_others}
use Rattle.rules.specs.Modes.{in_range}
use Rattle.rules.specs.Grounds.{tape_ordered}
use Rattle.rules.specs.Tasks.{count_of}
use Rattle.rules.specs.Batches.{each_job, work_part, party_of, answers_given}
use Rattle.rules.specs.declared.state.Turn.{Turn}
use Rattle.rules.specs.declared.state.Phase.TheVariants.{Job}
use Rattle.rules.specs.declared.state.State.{State}

-- a box with that turn of a job due, lent the job's tapes and room to work
pub record Ready (s : State) (first : ℕ) (turn : Turn) (tapes work : List ℕ) : Type 0 where
  pub ranged : in_range s ≡ true
  pub job : s.phase ≡ Job turn
  pub first_is : first ≡ s.batch.first
  pub long : length tapes ≡ tape_for s.n (count_of s.batch.task)
  pub ordered : (i : ℕ) → i < count_of s.batch.task → tape_ordered s s.batch.first tapes i ≡ true
  pub room : work_for s.n (count_of s.batch.task) ≤ length work

-- both works
abbrev pub works : List ℕ → List ℕ → Both
works w1 w2 = record { own = w1; others = w2 }

-- both works of comparison i, at first
abbrev pub works_of : State → State → List ℕ → List ℕ → ℕ → Both
works_of s1 s2 w1 w2 i = works (work_part s1.n w1 i) (work_part s2.n w2 i)

-- and after so many rounds
abbrev pub after : State → State → List ℕ → List ℕ → List ℕ → List ℕ → ℕ → ℕ → Both
after s1 s2 t1 t2 w1 w2 i = exchanged (party_of s1 t1 i) (party_of s2 t2 i) (works_of s1 s2 w1 w2 i)

-- the answer shares of box 1 and of box 2 of comparison i, after all rounds
abbrev pub answer1 : State → State → List ℕ → List ℕ → List ℕ → List ℕ → ℕ → ℕ
answer1 s1 s2 t1 t2 w1 w2 i = answer_own (party_of s1 t1 i) (party_of s2 t2 i) (works_of s1 s2 w1 w2 i)

abbrev pub answer2 : State → State → List ℕ → List ℕ → List ℕ → List ℕ → ℕ → ℕ
answer2 s1 s2 t1 t2 w1 w2 i = answer_others (party_of s1 t1 i) (party_of s2 t2 i) (works_of s1 s2 w1 w2 i)

-- the answer shares that they give: in the order of the comparisons, or a band's one from its two
abbrev pub answers1 : State → State → List ℕ → List ℕ → List ℕ → List ℕ → List ℕ
answers1 s1 s2 t1 t2 w1 w2 = answers_given s1.n s1.side s1.batch.task (each_job (count_of s1.batch.task) (answer1 s1 s2 t1 t2 w1 w2))

abbrev pub answers2 : State → State → List ℕ → List ℕ → List ℕ → List ℕ → List ℕ
answers2 s1 s2 t1 t2 w1 w2 = answers_given s2.n s2.side s2.batch.task (each_job (count_of s2.batch.task) (answer2 s1 s2 t1 t2 w1 w2))
