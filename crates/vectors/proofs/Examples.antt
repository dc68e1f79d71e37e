-- Worked examples of the definitions, which compute.
use Rattle.std.proofs.Common.{◌≡◌, ℕ, List, [], ◌∷◌, Some, None, refl}
use Rattle.lines.specs.Reading.{is_number, all_digits, value_after}
use Rattle.vectors.specs.Numbers.{next_at, numbers_from, read_to, spelled}

-- "3 120", a newline, "x7"
text : List ℕ
text = 51 ∷ 32 ∷ 49 ∷ 50 ∷ 48 ∷ 10 ∷ 120 ∷ 55 ∷ []

-- what is left of it after "3", and after "120"
rest : List ℕ
rest = 32 ∷ 49 ∷ 50 ∷ 48 ∷ 10 ∷ 120 ∷ 55 ∷ []

last : List ℕ
last = 10 ∷ 120 ∷ 55 ∷ []

second : next_at rest ≡ Some (120, last)
unfolding rest last next_at is_number all_digits value_after
second = refl

none_left : next_at [] ≡ None
unfolding next_at is_number
none_left = refl

-- "01" is no number
led : next_at (48 ∷ 49 ∷ []) ≡ None
unfolding next_at is_number all_digits value_after
led = refl

all : numbers_from 3 text ≡ 3 ∷ 120 ∷ 7 ∷ []
unfolding text numbers_from next_at is_number all_digits value_after
all = refl

two_read : read_to 2 text ≡ Some last
unfolding text last read_to next_at is_number all_digits value_after
two_read = refl

one_too_many : read_to 4 text ≡ None
unfolding text read_to next_at is_number all_digits value_after
one_too_many = refl

told : spelled text (3 ∷ 120 ∷ []) ≡ Some last
unfolding text last spelled next_at is_number all_digits value_after
told = refl

larger_told : spelled text (3 ∷ 119 ∷ []) ≡ None
unfolding text spelled next_at is_number all_digits value_after
larger_told = refl
