-- Lists given by their elements, and sums.
use Rattle.std.specs.Prelude.{ℕ, zero, suc, ◌+◌, List, [], ◌∷◌, ◌++◌}

-- f 0, f 1, .. , f (count − 1)
abbrev pub tabulate : ℕ → (ℕ → ℕ) → List ℕ
tabulate zero f = []
tabulate (suc k) f = tabulate k f ++ (f k ∷ [])

-- f 0 + f 1 + .. + f (count − 1)
abbrev pub sum : ℕ → (ℕ → ℕ) → ℕ
sum zero f = 0
sum (suc k) f = sum k f + f k
