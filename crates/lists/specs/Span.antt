-- Stretches of a list that is given by its elements.
use Rattle.std.specs.Prelude.{ℕ, ◌+◌, ◌-◌, List}
use Rattle.lists.specs.Tabulate.{tabulate}

-- f from, .. , f (stop − 1); nothing where from is stop or above it
abbrev pub span : ℕ → ℕ → (ℕ → ℕ) → List ℕ
span from stop f = tabulate (stop - from) (λ i. f (from + i))

-- the larger of two places
abbrev pub later : ℕ → ℕ → ℕ
later a b = a + (b - a)
