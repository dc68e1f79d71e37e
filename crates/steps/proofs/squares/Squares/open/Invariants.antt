-- `steps::squares::Squares::open` meets its contract. The loop's invariant: the words of the tests passed stand in their places, from place `from` on.
use Rattle.std.proofs.Common.{ℕ, ◌*◌, ◌≤◌, List, ◌≡◌, length, get_or}
use Rattle.std.proofs.lemmas.List.Edits.{sets}
use Rattle.lists.specs.Span.{span, later}
use Rattle.tape.specs.Layout.{square_count}
use Rattle.protocol.specs.Squares.{bit_difference, square_opening}
use Rattle.steps.proofs.squares.Squares.open.Given as goal

-- the word of square j
abbrev pub word : ℕ → ℕ → (ℕ → ℕ) → List ℕ → ℕ → ℕ
word n side d squares j = square_opening n (bit_difference n side d j) squares j

abbrev pub invariant-loop-test : goal.invariant-loop-test
invariant-loop-test l =
    (l.test ≤ 3)
    × (length l.out ≡ length l.initial.out)
    × (l.out
    ≡ sets l.initial.out (later (l.test * (l.self.n.bits * l.self.n.bits)) l.from)
    (span (later (l.test * (l.self.n.bits * l.self.n.bits)) l.from) (square_count l.self.n.bits) (word l.self.n.bits l.side (λ t. get_or l.tests.doubled t 0) l.self.words.now)))
