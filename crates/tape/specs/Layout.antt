-- Where everything stands on a tape (document 01, "The tape"): a body of three sections, then a trailer of seven words.
use Rattle.std.specs.Prelude.{ℕ, zero, suc, ◌+◌, ◌-◌, ◌*◌, List, [], ◌∷◌, take, drop}

-- how many squares, power groups and Beaver triples a tape deals
abbrev pub square_count : ℕ → ℕ
square_count n = 3 * (n * n)

abbrev pub group_count : ℕ → ℕ
group_count n = 3 * n

abbrev pub triple_count : ℕ → ℕ
triple_count n = 3 * n + 6

-- the words of the last group, which stand behind the triples, last in the body: a, b, c, ab, ac, bc, abc (document 02, P7)
abbrev pub last_length : ℕ
last_length = 7

-- the words of section 0, the squares; 1, the power groups; 2, the triples and the last group
abbrev pub section_length : ℕ → ℕ → ℕ
section_length n zero = square_count n * 2
section_length n (suc zero) = group_count n * (n + 1)
section_length n (suc (suc zero)) = triple_count n * 3 + last_length
section_length n (suc (suc (suc k))) = 0

-- the words before a section; before section 3, all of the body
abbrev pub section_start : ℕ → ℕ → ℕ
section_start n zero = 0
section_start n (suc k) = section_start n k + section_length n k

-- a section's words
unfoldable pub section : ℕ → ℕ → List ℕ → List ℕ
section n which tape = take (section_length n which) (drop (section_start n which) tape)

abbrev pub trailer_length : ℕ
trailer_length = 7

-- the body's words: those before the section after the last, 9n² + 12n + 25
abbrev pub body_length : ℕ → ℕ
body_length n = section_start n 3

-- 9n² + 12n + 32
abbrev pub tape_length : ℕ → ℕ
tape_length n = body_length n + trailer_length

-- the distance back from the trailer's first word to a section
abbrev pub distance_back : ℕ → ℕ → ℕ
distance_back n which = body_length n - section_start n which

abbrev pub trailer : ℕ → ℕ → ℕ → ℕ → List ℕ
trailer n pair side number = distance_back n 0 ∷ distance_back n 1 ∷ distance_back n 2 ∷ pair ∷ side ∷ number ∷ n ∷ []
