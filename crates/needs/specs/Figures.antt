-- How much so many jobs need (document 02, P8): one rule, which refuses or tells the figures.
use Rattle.std.specs.Prelude.{ℕ, not, cond, List, [], ◌∷◌, eqb, Result, Ok, Err}
use Rattle.field.specs.Width.{listed}
use Rattle.protocol.specs.Sizes.{count_fits, tape_for, rounds_for, work_for}
use Rattle.refusals.specs.Grounds.{Ground, ◌when◌, earliest_of}
use Rattle.refusals.specs.Numbers.{number_of}
use Rattle.refusals.specs.declared.Refusal.{Refusal}
use Rattle.refusals.specs.declared.Refusal.TheVariants.{Width, Count}
use Rattle.needs.specs.declared.Needs.{Needs}

-- a refusal's number, 0 where there is none; then the words of the tapes, of each round and of work
pub record Figures : Type 0 where
  pub refusal : ℕ
  pub tape : ℕ
  pub rounds : List ℕ
  pub work : ℕ

abbrev pub figures_for : ℕ → ℕ → Figures
figures_for n count = record { refusal = 0; tape = tape_for n count; rounds = rounds_for n count; work = work_for n count }

-- a refusal has none: all are 0
abbrev pub no_figures : ℕ → Figures
no_figures refusal = record { refusal = refusal; tape = 0; rounds = 0 ∷ 0 ∷ 0 ∷ 0 ∷ 0 ∷ []; work = 0 }

abbrev pub needs_grounds : ℕ → ℕ → List Ground
needs_grounds n count = (Width when not (listed n)) ∷ (Count when not (count_fits count)) ∷ []

unfoldable pub needs_ground : ℕ → ℕ → ℕ
needs_ground n count = earliest_of (needs_grounds n count)

unfoldable pub needs_rule : ℕ → ℕ → Figures
needs_rule n count =
    let cause = needs_ground n count in
    cond (eqb cause 0) (figures_for n count) (no_figures cause)

-- the figures that a call gave back
abbrev pub figures_of : Needs → Figures
figures_of needs = record { refusal = 0; tape = needs.tape; rounds = needs.rounds; work = needs.work }

-- what a call gave back
abbrev pub told : Result Needs Refusal → Figures
told (Ok needs) = figures_of needs
told (Err refusal) = no_figures (number_of refusal)
