-- The front of a buffer that is full of filler is full of it.
use Prim.Native.Nat.{ℕ, ◌≤◌}
use mathlib.Core.Path.{◌≡◌, sym, ap, ◌∙◌}
use mathlib.Core.List.{List}
use lib.ListN.{length, take, length-replicate}
use Rattle.std.proofs.lemmas.List.{take-replicate}
use Rattle.walk.specs.Walk.{filler}

pub front : (count : ℕ) (l : List ℕ) → count ≤ 150 → l ≡ filler 150 → take count l ≡ filler count
front count l fits full = ap (take count) full ∙ take-replicate count 150 9 fits

-- all of it
pub whole : (count : ℕ) (l : List ℕ) → l ≡ filler count → l ≡ filler (length l)
whole count l e = e ∙ ap filler {x = count} (sym (ap length e ∙ length-replicate count 9))
