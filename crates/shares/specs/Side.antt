-- The two boxes (document 01's side): 1 and 2.
use Rattle.std.specs.Prelude.{ℕ, ◌-◌, Bool, ◌||◌, eqb}

unfoldable pub is_side : ℕ → Bool
is_side side = eqb side 1 || eqb side 2

-- the other box's side
unfoldable pub other : ℕ → ℕ
other side = 3 - side
