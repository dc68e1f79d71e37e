-- The groups of squares: the test of a group and of a square, and a stretch of stores that grows down by a whole group.
use Rattle.std.proofs.Common.{ℕ, ◌≡◌, ◌+◌, ◌*◌, ◌/◌, ◌<◌, ◌≤◌, List, ◌∙◌, arith}
use Rattle.std.proofs.Math.Nat.{div-lt_iff_lt-mul, div-eq_of_lt-le, div-div-eq-div-mul}
use Rattle.std.proofs.lemmas.List.Edits.{sets}
use Rattle.lists.specs.Span.{span, later}
use Rattle.lists.proofs.Span.{sets_later}
use Rattle.tape.specs.Layout.{group_count}
use Rattle.protocol.specs.Squares.{bit_difference}

-- the test of a group
pub test_of : (n g : ℕ) → 0 < n → g < group_count n → g / n < 3
test_of n g pos l = (div-lt_iff_lt-mul pos).1 l

-- the squares of a test ask for its doubled share alone
pub one_test : (n side : ℕ) (d : ℕ → ℕ) (test j : ℕ) → test * (n * n) ≤ j → j < (test + 1) * (n * n)
    → bit_difference n side (λ t. d test) j ≡ bit_difference n side d j
unfolding bit_difference
one_test n side d test j from below =
    let tested : j / n / n ≡ test = div-div-eq-div-mul j n n ∙ div-eq_of_lt-le (n * n) from below in
    rw tested

-- a turn of a loop that stores a group's words before those of the groups after it, all of them from place `from` on
pub turn_down : (l : List ℕ) (n g from stop : ℕ) (f : ℕ → ℕ) → (g + 1) * n ≤ stop
    → sets (sets l (later ((g + 1) * n) from) (span (later ((g + 1) * n) from) stop f)) (later (g * n) from) (span (later (g * n) from) ((g + 1) * n) f)
    ≡ sets l (later (g * n) from) (span (later (g * n) from) stop f)
turn_down l n g from stop f room =
    let upper : later ((g + 1) * n) (later (g * n) from) ≡ later ((g + 1) * n) from = omega arith in
    rw upper at (sets_later l (later (g * n) from) ((g + 1) * n) stop f room)
