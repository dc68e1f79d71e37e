-- `steps::squares::Squares::open_test` meets its contract. The loop's invariant: the words of the levels passed stand in their places, from place `from` on.
use Rattle.std.proofs.Common.{ℕ, ◌+◌, ◌*◌, ◌≤◌, List, ◌≡◌, length}
use Rattle.std.proofs.lemmas.List.Edits.{sets}
use Rattle.lists.specs.Span.{span, later}
use Rattle.protocol.specs.Squares.{bit_difference, square_opening}
use Rattle.steps.proofs.squares.Squares.open_test.Given as goal

-- the word of square j
abbrev pub word : ℕ → ℕ → ℕ → List ℕ → ℕ → ℕ
word n side doubled squares j = square_opening n (bit_difference n side (λ t. doubled) j) squares j

abbrev pub invariant-loop-level : goal.invariant-loop-level
invariant-loop-level l =
    (l.level ≤ l.self.n.bits)
    × (length l.out ≡ length l.initial.out)
    × (l.out
    ≡ sets l.initial.out (later ((l.test * l.self.n.bits + l.level) * l.self.n.bits) l.from)
    (span (later ((l.test * l.self.n.bits + l.level) * l.self.n.bits) l.from) ((l.test + 1) * (l.self.n.bits * l.self.n.bits)) (word l.self.n.bits l.side l.doubled l.self.words.now)))
