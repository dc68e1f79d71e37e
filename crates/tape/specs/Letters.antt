-- The dealt letters of a section, by their place. Squares stand in the order of document 01's rounds, test, level, bit: square (test · n + level) · n + bit.
-- Power groups and the first 3n triples stand in the order test, level. The last group stands behind the triples, in their section.
use Rattle.std.specs.Prelude.{ℕ, ◌+◌, ◌*◌, List, get_or}
use Rattle.tape.specs.Layout.{triple_count}

-- square i is (a, q)
abbrev pub square_mask : List ℕ → ℕ → ℕ
square_mask squares i = get_or squares (i * 2) 0

abbrev pub square_value : List ℕ → ℕ → ℕ
square_value squares i = get_or squares (i * 2 + 1) 0

-- power group g is (w, r, r², .., r^n)
abbrev pub group_inverse : ℕ → List ℕ → ℕ → ℕ
group_inverse n powers g = get_or powers (g * (n + 1)) 0

-- r^k of group g, for k from 1 to n
abbrev pub group_power : ℕ → List ℕ → ℕ → ℕ → ℕ
group_power n powers g k = get_or powers (g * (n + 1) + k) 0

-- triple i is (a, b, c)
abbrev pub triple_left : List ℕ → ℕ → ℕ
triple_left triples i = get_or triples (i * 3) 0

abbrev pub triple_right : List ℕ → ℕ → ℕ
triple_right triples i = get_or triples (i * 3 + 1) 0

abbrev pub triple_product : List ℕ → ℕ → ℕ
triple_product triples i = get_or triples (i * 3 + 2) 0

-- word k of the last group, (a, b, c, ab, ac, bc, abc)
abbrev pub last_letter : ℕ → List ℕ → ℕ → ℕ
last_letter n triples k = get_or triples (triple_count n * 3 + k) 0
