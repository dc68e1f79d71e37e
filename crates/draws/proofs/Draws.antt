-- The laws of draws.
use Prim.Native.Nat.{ℕ, zero, suc, ◌+◌}
use mathlib.Core.Path.{◌≡◌, refl, ap}
use native.Mathlib.Nat.{add-zero, add-suc}
use native.Mathlib.Numerals.{add-one}
use Rattle.draws.specs.Draws.{next, draw}

-- one draw more
pub draw_next : (v k : ℕ) → draw v (k + 1) ≡ next (draw v k)
unfolding draw
draw_next v k = ap (draw v) (add-one k)

-- the draws after the first so many
pub draw_after : (v j k : ℕ) → draw (draw v j) k ≡ draw v (j + k)
unfolding draw
draw_after v j zero = rw (add-zero j) refl
draw_after v j (suc k) = rw (add-suc j k) (ap next (draw_after v j k))

pub draw_none : (v : ℕ) → draw v 0 ≡ v
unfolding draw
draw_none v = refl

pub draw_one : (v : ℕ) → draw v 1 ≡ next v
unfolding draw
draw_one v = refl
