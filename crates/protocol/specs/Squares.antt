-- Round 1's squares: one for each test, level and bit. Square j is bit j % n of group j / n; group g is level g % n of test g / n.
use Rattle.std.specs.Prelude.{ℕ, ◌+◌, ◌*◌, ◌/◌, ◌%◌, List, get_or}
use Rattle.lists.specs.Tabulate.{sum}
use Rattle.field.specs.Width.{modulus}
use Rattle.shares.specs.Share.{constant_share, masked, opened, square_share}
use Rattle.tape.specs.Letters.{square_mask, square_value}
use Rattle.encoding.specs.Codes.{bit_of, level_code}
use Rattle.protocol.specs.Tests.{complement}

-- a box's share of the difference of a bit of its code from the other box's: its square is 1 for equal bits
abbrev pub code_difference : ℕ → ℕ → ℕ → ℕ → ℕ
code_difference n side code k = complement n side (bit_of code k)

-- the share that square j opens, d being the doubled shares of the three tests
unfoldable pub bit_difference : ℕ → ℕ → (ℕ → ℕ) → ℕ → ℕ
bit_difference n side d j = code_difference n side (level_code n side (d (j / n / n)) (j / n % n)) (j % n)

-- the word that opens a share v by square j, and the share of its square after the other box's word was heard
abbrev pub square_opening : ℕ → ℕ → List ℕ → ℕ → ℕ
square_opening n v squares j = masked n v (square_mask squares j)

unfoldable pub square_closing : ℕ → ℕ → ℕ → List ℕ → List ℕ → ℕ → ℕ
square_closing n side v squares incoming j =
    square_share n side (opened n (square_opening n v squares j) (get_or incoming j 0)) (square_mask squares j) (square_value squares j)

-- the share of A at group g: 1 + the n squares of its bits
unfoldable pub match_count : ℕ → ℕ → (ℕ → ℕ) → List ℕ → List ℕ → ℕ → ℕ
match_count n side d squares incoming g =
    (constant_share side 1 + sum n (λ k. square_closing n side (bit_difference n side d (g * n + k)) squares incoming (g * n + k))) % modulus n
