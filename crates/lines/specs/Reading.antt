-- A text's first line as so many decimal numbers. A text is a list of bytes: 10 is a newline, 32 a space, 48 to 57 the digits.
use Rattle.std.specs.Prelude.{ℕ, suc, ◌+◌, ◌-◌, ◌*◌, Bool, true, ◌&&◌, cond, not, List, [], ◌∷◌, map, eqb, leb, ltb, length, get_or, take}

-- the place of the first byte b, and the length where there is none
unfoldable pub earliest_of : ℕ → List ℕ → ℕ
earliest_of b [] = 0
earliest_of b (x ∷ s) = cond (eqb x b) 0 (suc (earliest_of b s))

-- the bytes before the first newline
unfoldable pub line_of : List ℕ → List ℕ
line_of text = take (earliest_of 10 text) text

-- a byte at the front of the first part
abbrev pub onto : ℕ → List (List ℕ) → List (List ℕ)
onto b [] = []
onto b (p ∷ ps) = (b ∷ p) ∷ ps

-- the runs of bytes between the spaces: one more than there are spaces, and any of them may be empty
unfoldable pub parts_of : List ℕ → List (List ℕ)
parts_of [] = [] ∷ []
parts_of (b ∷ s) = cond (eqb b 32) ([] ∷ parts_of s) (onto b (parts_of s))

unfoldable pub all_digits : List ℕ → Bool
all_digits [] = true
all_digits (b ∷ s) = leb 48 b && leb b 57 && all_digits s

-- the number that digits spell, after those that spell v
unfoldable pub value_after : ℕ → List ℕ → ℕ
value_after v [] = v
value_after v (b ∷ s) = value_after (v * 10 + (b - 48)) s

abbrev pub value_of : List ℕ → ℕ
value_of part = value_after 0 part

-- a zero with digits after it
abbrev pub zero_led : List ℕ → Bool
zero_led part = ltb 1 (length part) && eqb (get_or part 0 0) 48

-- one digit or more and nothing else, no zero in front of others, and a value that fits 32 bits
unfoldable pub is_number : List ℕ → Bool
is_number part = ltb 0 (length part) && all_digits part && not (zero_led part) && ltb (value_of part) 4294967296

abbrev pub all_numbers : List (List ℕ) → Bool
all_numbers [] = true
all_numbers (p ∷ ps) = is_number p && all_numbers ps

-- a line of so many numbers
unfoldable pub is_numbers : ℕ → List ℕ → Bool
is_numbers count line = eqb (length (parts_of line)) count && all_numbers (parts_of line)

unfoldable pub numbers_of : List ℕ → List ℕ
numbers_of line = map value_of (parts_of line)

-- a text whose first line is so many numbers
abbrev pub is_line : ℕ → List ℕ → Bool
is_line count text = is_numbers count (line_of text)

-- the numbers of its first line
abbrev pub line_numbers : List ℕ → List ℕ
line_numbers text = numbers_of (line_of text)
