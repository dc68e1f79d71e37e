-- `steps::squares::Squares::close_group` meets its contract. The loop's invariant: the total is, modulo p, the share of 1 + the squares of the bits passed, and below 5p for each.
use Rattle.std.proofs.Common.{ℕ, ◌+◌, ◌*◌, ◌≤◌, List}
use Rattle.lists.specs.Tabulate.{sum}
use Rattle.field.specs.Width.{modulus}
use Rattle.field.specs.Congruence.{Cong}
use Rattle.shares.specs.Share.{constant_share}
use Rattle.protocol.specs.Squares.{code_difference, square_closing}
use Rattle.steps.proofs.squares.Squares.close_group.Given as goal

-- the share of the square of bit k
abbrev pub term : ℕ → ℕ → ℕ → List ℕ → ℕ → List ℕ → ℕ → ℕ
term n side code squares g incoming k = square_closing n side (code_difference n side code k) squares incoming (g * n + k)

abbrev pub invariant-loop-k : goal.invariant-loop-k
invariant-loop-k l =
    (l.k ≤ l.self.n.bits)
    × (l.total ≤ 1 + l.k * (5 * modulus l.self.n.bits))
    × Cong (modulus l.self.n.bits) l.total (constant_share l.side 1 + sum l.k (term l.self.n.bits l.side l.code l.self.words.now l.g l.incoming))
