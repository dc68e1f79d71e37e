-- The laws of the zeros of a message.
use Prim.Native.Nat.{ℕ, ◌+◌, ◌≤◌}
use mathlib.Core.Path.{◌≡◌, sym}
use mathlib.Core.Bool.{Bool, true, false, cond}
use mathlib.Core.List.{List, [], ◌∷◌, ◌++◌}
use native.Mathlib.Nat.{zero-add}
use native.Mathlib.Omega.{arith}
use lib.Dec.{eqb}
use lib.ListN.{length, get_or}
use Rattle.lists.specs.Tabulate.{sum}
use Rattle.lists.proofs.Sums.{sum_first, sum_most}
use Rattle.board.specs.Zeros.{zero_at, zeros_in}

zeros_first : (word : ℕ) (words : List ℕ) → zeros_in (word ∷ words) ≡ cond (eqb word 0) 1 0 + zeros_in words
unfolding zeros_in
zeros_first word words = sum_first (length words) (zero_at (word ∷ words))

-- of two messages
pub zeros_append : (a b : List ℕ) → zeros_in (a ++ b) ≡ zeros_in a + zeros_in b
unfolding zeros_in
zeros_append [] b = sym (zero-add (zeros_in b))
zeros_append (word ∷ a) b = omega (arith, zeros_first word (a ++ b), zeros_append a b, zeros_first word a)

one_most : (t : Bool) → cond t 1 0 ≤ 1
one_most true = omega arith
one_most false = omega arith

-- of the first so many words
pub zeros_to_lem : (words : List ℕ) (k : ℕ) → sum k (zero_at words) ≤ k
zeros_to_lem words k = sum_most k (zero_at words) (λ i less. one_most (eqb (get_or words i 0) 0))

pub zeros_most : (words : List ℕ) → zeros_in words ≤ length words
unfolding zeros_in
zeros_most words = zeros_to_lem words (length words)
