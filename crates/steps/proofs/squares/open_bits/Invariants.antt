-- The words of the bits passed stand in their places.
use Rattle.std.proofs.Common.{ℕ, List}
use Rattle.lists.proofs.Stores.{StoredDown}
use Rattle.protocol.specs.Squares.{code_difference, square_opening}
use Rattle.steps.proofs.squares.open_bits.Given as goal

-- the word of bit k
abbrev pub word : ℕ → ℕ → ℕ → List ℕ → ℕ → ℕ
word n side code squares k = square_opening n (code_difference n side code k) squares k

abbrev pub invariant-loop-k : goal.invariant-loop-k
invariant-loop-k l = StoredDown l.initial.out 0 l.low l.n.bits (word l.n.bits l.side l.code l.squares) l.out l.k
