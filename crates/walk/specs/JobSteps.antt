-- The steps of a job by their numbers, and the round of each.
use Rattle.std.specs.Prelude.{ℕ, cond, eqb, ◌/◌, ◌%◌}
use Rattle.walk.specs.declared.job_steps.Step.{Step}
use Rattle.walk.specs.declared.job_steps.Step.TheVariants.{Wake, Start, Speak, Hear}

abbrev pub step_at : ℕ → Step
step_at number = cond (eqb number 0) Wake (cond (eqb number 1) Start (cond (eqb (number % 2) 0) (Speak (number / 2)) (Hear (number / 2))))

-- of the steps before the first round it's the first
abbrev pub round_in : Step → ℕ
round_in Wake = 1
round_in Start = 1
round_in (Speak round) = round
round_in (Hear round) = round
