-- Worked examples of the definitions, which compute.
use mathlib.Core.Path.{◌≡◌, refl}
use mathlib.Core.Bool.{true, false}
use mathlib.Core.List.{[], ◌∷◌}
use Rattle.lines.specs.Reading.{earliest_of, line_of, parts_of, all_digits, value_after, is_number, is_numbers, numbers_of, is_line, line_numbers}
use Rattle.lines.specs.Writing.{digits_of, decimal, spaced}

-- "0"
zero_is : is_number (48 ∷ []) ≡ true
unfolding is_number all_digits value_after
zero_is = refl

-- "00"
zeros_not : is_number (48 ∷ 48 ∷ []) ≡ false
unfolding is_number all_digits value_after
zeros_not = refl

-- "4294967295"
largest_is : is_number (52 ∷ 50 ∷ 57 ∷ 52 ∷ 57 ∷ 54 ∷ 55 ∷ 50 ∷ 57 ∷ 53 ∷ []) ≡ true
unfolding is_number all_digits value_after
largest_is = refl

-- "4294967296"
larger_not : is_number (52 ∷ 50 ∷ 57 ∷ 52 ∷ 57 ∷ 54 ∷ 55 ∷ 50 ∷ 57 ∷ 54 ∷ []) ≡ false
unfolding is_number all_digits value_after
larger_not = refl

-- ""
empty_not : is_number [] ≡ false
unfolding is_number all_digits value_after
empty_not = refl

-- "+1"
sign_not : is_number (43 ∷ 49 ∷ []) ≡ false
unfolding is_number all_digits value_after
sign_not = refl

-- "1 20 0 4 7", a newline, "x"
five_is : is_line 5 (49 ∷ 32 ∷ 50 ∷ 48 ∷ 32 ∷ 48 ∷ 32 ∷ 52 ∷ 32 ∷ 55 ∷ 10 ∷ 120 ∷ []) ≡ true
unfolding earliest_of line_of parts_of all_digits value_after is_number is_numbers numbers_of
five_is = refl

-- its numbers
five_values : line_numbers (49 ∷ 32 ∷ 50 ∷ 48 ∷ 32 ∷ 48 ∷ 32 ∷ 52 ∷ 32 ∷ 55 ∷ 10 ∷ 120 ∷ []) ≡ 1 ∷ 20 ∷ 0 ∷ 4 ∷ 7 ∷ []
unfolding earliest_of line_of parts_of all_digits value_after is_number is_numbers numbers_of
five_values = refl

-- "1 2 3 4 5" without a newline
no_newline : is_line 5 (49 ∷ 32 ∷ 50 ∷ 32 ∷ 51 ∷ 32 ∷ 52 ∷ 32 ∷ 53 ∷ []) ≡ true
unfolding earliest_of line_of parts_of all_digits value_after is_number is_numbers numbers_of
no_newline = refl

-- a carriage return
return_not : is_line 5 (49 ∷ 32 ∷ 50 ∷ 32 ∷ 51 ∷ 32 ∷ 52 ∷ 32 ∷ 53 ∷ 13 ∷ 10 ∷ []) ≡ false
unfolding earliest_of line_of parts_of all_digits value_after is_number is_numbers numbers_of
return_not = refl

-- a trailing space
trailing_not : is_line 5 (49 ∷ 32 ∷ 50 ∷ 32 ∷ 51 ∷ 32 ∷ 52 ∷ 32 ∷ 53 ∷ 32 ∷ []) ≡ false
unfolding earliest_of line_of parts_of all_digits value_after is_number is_numbers numbers_of
trailing_not = refl

-- two spaces: five parts, one of them empty
two_spaces_not : is_line 5 (49 ∷ 32 ∷ 32 ∷ 50 ∷ 32 ∷ 51 ∷ 32 ∷ 52 ∷ []) ≡ false
unfolding earliest_of line_of parts_of all_digits value_after is_number is_numbers numbers_of
two_spaces_not = refl

-- six numbers
six_not : is_line 5 (49 ∷ 32 ∷ 50 ∷ 32 ∷ 51 ∷ 32 ∷ 52 ∷ 32 ∷ 53 ∷ 32 ∷ 54 ∷ []) ≡ false
unfolding earliest_of line_of parts_of all_digits value_after is_number is_numbers numbers_of
six_not = refl

-- "3 8", a newline
two_is : is_line 2 (51 ∷ 32 ∷ 56 ∷ 10 ∷ []) ≡ true
unfolding earliest_of line_of parts_of all_digits value_after is_number is_numbers numbers_of
two_is = refl

-- its numbers
two_values : line_numbers (51 ∷ 32 ∷ 56 ∷ 10 ∷ []) ≡ 3 ∷ 8 ∷ []
unfolding earliest_of line_of parts_of all_digits value_after is_number is_numbers numbers_of
two_values = refl

-- "3" where two are asked for
one_not : is_line 2 (51 ∷ []) ≡ false
unfolding earliest_of line_of parts_of all_digits value_after is_number is_numbers numbers_of
one_not = refl

-- 0
spelled_zero : decimal 0 ≡ 48 ∷ []
unfolding digits_of
spelled_zero = refl

-- the largest word
spelled : decimal 4294967295 ≡ 52 ∷ 50 ∷ 57 ∷ 52 ∷ 57 ∷ 54 ∷ 55 ∷ 50 ∷ 57 ∷ 53 ∷ []
unfolding digits_of
spelled = refl

-- " 33 6"
spaced_two : spaced (33 ∷ 6 ∷ []) ≡ 32 ∷ 51 ∷ 51 ∷ 32 ∷ 54 ∷ []
unfolding spaced digits_of
spaced_two = refl
