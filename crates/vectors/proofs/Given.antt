-- The answer shares that a box gives, from those of its comparisons.
use Rattle.std.proofs.Common.{◌≡◌, ℕ, ◌<◌, true, cond, ltb, take, refl, ◌∙◌, arith}
use Rattle.std.proofs.lemmas.List.{get_or-take, length-take-le}
use Rattle.lists.specs.Tabulate.{tabulate}
use Rattle.lists.proofs.Tabulate.{length_tabulate, tabulated, tabulate_same}
use Rattle.protocol.specs.Sizes.{most_jobs, count_fits}
use Rattle.rules.specs.Tasks.{count_of, answer_count, band_share}
use Rattle.rules.specs.Batches.{each_job, answers_given}
use Rattle.rules.specs.OneByOne.{answer_from}
use Rattle.rules.specs.declared.state.Task.{Task}
use Rattle.rules.specs.declared.state.Task.TheVariants.{Compare, Band}
use Rattle.rules.proofs.Batches.{count_most, each_at, from_same}
use Rattle.vectors.specs.Job.{given}

-- the words below the count, without the zeros past it
take_each : (count : ℕ) (f : ℕ → ℕ) → count_fits count ≡ true → take count (each_job count f) ≡ tabulate count f
take_each count f fits =
    let few = (count_most count fits).1 in
    tabulated (take count (each_job count f)) count f
    (length-take-le count (each_job count f) (omega (arith, few, length_tabulate most_jobs (λ k. cond (ltb k count) (f k) 0))))
    (λ i less. get_or-take count (each_job count f) i 0 less ∙ each_at count f i fits less)

module _ (n side : ℕ) where
  -- so of what a box gives
  pub take_given : (task : Task) (f : ℕ → ℕ) → count_fits (count_of task) ≡ true
      → take (answer_count task) (answers_given n side task (each_job (count_of task) f)) ≡ given n side task f
  unfolding count_fits
  take_given (Compare count) f fits = take_each count f fits
  take_given (Band low high) f fits = take_each 1 (λ i. band_share n side (f 0) (f 1)) refl

  -- from the same shares of its comparisons come the same
  pub given_same : (task : Task) (f g : ℕ → ℕ) → ((i : ℕ) → i < count_of task → f i ≡ g i) → given n side task f ≡ given n side task g
  given_same task f g same =
      tabulate_same (answer_count task) (answer_from n side task f) (answer_from n side task g) (λ i less. from_same n side task f g i same less)
