-- The decimal numbers of a text, one after another. A text is a list of bytes, and what is still unread of one is a text too.
use Rattle.std.specs.Prelude.{ℕ, zero, suc, cond, List, [], ◌∷◌, Option, Some, None, eqb, not, take, drop}
use Rattle.std.specs.Char.{is_ascii_digit}
use Rattle.std.specs.List.{position_or_len}
use Rattle.std.specs.Option.{option_and_then, option_map_or, unwrap_or}
use Rattle.lines.specs.Reading.{is_number, value_of}

-- a text from its first digit on
abbrev pub from_digit : List ℕ → List ℕ
from_digit text = drop (position_or_len is_ascii_digit text) text

-- the next number, and the text after it: past what is no digit, all digits up to the next byte that is none, a number of 32 bits
unfoldable pub next_at : List ℕ → Option (ℕ × List ℕ)
next_at text =
    let digits = position_or_len (λ b. not (is_ascii_digit b)) (from_digit text) in
    let part = take digits (from_digit text) in
    cond (is_number part) (Some (value_of part, drop digits (from_digit text))) None

-- the next numbers, up to so many
unfoldable pub numbers_from : ℕ → List ℕ → List ℕ
numbers_from zero text = []
numbers_from (suc count) text = option_map_or (λ x. x.0 ∷ numbers_from count x.1) (next_at text) []

-- the text after so many numbers
unfoldable pub read_to : ℕ → List ℕ → Option (List ℕ)
read_to zero text = Some text
read_to (suc count) text = option_and_then (λ x. read_to count x.1) (next_at text)

-- the same as a text, of no account where there are fewer numbers
abbrev pub rest_after : ℕ → List ℕ → List ℕ
rest_after count text = unwrap_or (read_to count text) []

-- the text after these words, if they are the next numbers
unfoldable pub spelled : List ℕ → List ℕ → Option (List ℕ)
spelled text [] = Some text
spelled text (w ∷ ws) = option_and_then (λ x. cond (eqb x.0 w) (spelled x.1 ws) None) (next_at text)
