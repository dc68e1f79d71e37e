-- The decimal spelling of a number, and texts made of numbers.
use Rattle.std.specs.Prelude.{ℕ, zero, suc, ◌+◌, ◌/◌, ◌%◌, cond, List, [], ◌∷◌, ◌++◌, ltb}

-- the digits of v, of which there are at most so many: one, or those of v / 10 and then the last.
-- A let waits until it is read, so the digits compute whatever the count.
unfoldable pub digits_of : ℕ → ℕ → List ℕ
digits_of zero v = []
digits_of (suc most) v =
    let more = digits_of most (v / 10) ++ ((48 + v % 10) ∷ []) in
    cond (ltb v 10) ((48 + v) ∷ []) more

-- no leading zero, and 0 is one digit; v has no more than v + 1 digits
abbrev pub decimal : ℕ → List ℕ
decimal v = digits_of (suc v) v

-- a name, a number and a newline
abbrev pub named : List ℕ → ℕ → List ℕ
named name number = name ++ decimal number ++ (10 ∷ [])

-- `refused `, the number, a newline
unfoldable pub refused_text : ℕ → List ℕ
refused_text k = named (114 ∷ 101 ∷ 102 ∷ 117 ∷ 115 ∷ 101 ∷ 100 ∷ 32 ∷ []) k

-- each number after a space
unfoldable pub spaced : List ℕ → List ℕ
spaced [] = []
spaced (v ∷ vs) = (32 ∷ []) ++ decimal v ++ spaced vs

-- a name, the numbers, and a newline
abbrev pub row : List ℕ → List ℕ → List ℕ
row name numbers = name ++ spaced numbers ++ (10 ∷ [])
