-- Numbers, each after a space: one more.
use Prim.Native.Nat.{ℕ, ◌+◌, ◌<◌}
use mathlib.Core.Path.{◌≡◌, ap, ◌∙◌}
use mathlib.Core.List.{List, [], ◌∷◌, ◌++◌, append_assoc, append-nil}
use native.Mathlib.Numerals.{add-one}
use lib.ListN.{length, get_or, take}
use lib.Seq.{take-suc}
use Rattle.lines.specs.Writing.{decimal, spaced}

pub spaced_more : (vs : List ℕ) (v : ℕ) → spaced (vs ++ (v ∷ [])) ≡ spaced vs ++ (32 ∷ []) ++ decimal v
unfolding spaced
spaced_more [] v = append-nil ((32 ∷ []) ++ decimal v)
spaced_more (x ∷ vs) v = rw (spaced_more vs v) (simp append_assoc)

-- the numbers before a place, and the one there
pub spaced_take : (vs : List ℕ) (i : ℕ) → i < length vs → spaced (take (i + 1) vs) ≡ spaced (take i vs) ++ (32 ∷ []) ++ decimal (get_or vs i 0)
spaced_take vs i less =
    ap (λ (m : ℕ). spaced (take m vs)) (add-one i)
    ∙ ap spaced (take-suc vs i 0 less)
    ∙ spaced_more (take i vs) (get_or vs i 0)
