-- Lists of which each element was changed by one function.
use Prim.Native.Nat.{ℕ, zero, suc}
use mathlib.Core.Path.{◌≡◌, refl, sym, ap}
use mathlib.Core.List.{List, [], ◌∷◌, map}
use lib.ListN.{length, get_or}

pub length_map : (f : ℕ → ℕ) (l : List ℕ) → length (map f l) ≡ length l
length_map f [] = refl
length_map f (v ∷ l) = ap suc (length_map f l)

-- past the end stands 0, so a function that keeps 0 needs no bound
pub get_d_map : (f : ℕ → ℕ) → f 0 ≡ 0 → (l : List ℕ) (i : ℕ) → get_or (map f l) i 0 ≡ f (get_or l i 0)
get_d_map f keeps [] i = sym keeps
get_d_map f keeps (v ∷ l) zero = refl
get_d_map f keeps (v ∷ l) (suc i) = get_d_map f keeps l i
