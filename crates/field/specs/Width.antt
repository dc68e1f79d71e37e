-- The widths and the modulus of the field (document 01, "The field and the shares").
use Rattle.std.specs.Prelude.{ℕ, ◌-◌, ◌^◌, Bool, false, ◌||◌, List, [], ◌∷◌, ◌==◌}

-- n is one of the numbers
abbrev pub among : ℕ → List ℕ → Bool
among n [] = false
among n (w ∷ ws) = n == w || among n ws

-- the widths that document 01 lists
abbrev pub widths : List ℕ
widths = 3 ∷ 5 ∷ 7 ∷ 13 ∷ 17 ∷ 19 ∷ 31 ∷ []

-- n is a listed width
unfoldable pub listed : ℕ → Bool
listed n = among n widths

-- document 01's p
unfoldable pub modulus : ℕ → ℕ
modulus n = 2 ^ n - 1
