-- What the draws of a group become (document 02, P1 and P7). Groups are of four kinds, in the order of the body: 0, squares (a, q); 1, power groups
-- (w, r, .., r^n); 2, triples (a, b, c); 3, the last group (a, b, c, ab, ac, bc, abc). A group takes the draws after v, the last draw before it or,
-- at the beginning, the seed.
use Rattle.std.specs.Prelude.{ℕ, zero, suc, ◌+◌, ◌-◌, ◌*◌, ◌%◌, ◌^◌, cond, List, [], ◌∷◌, eqb, ltb, get_or}
use Rattle.field.specs.Width.{modulus}
use Rattle.field.specs.Subtraction.{minus}
use Rattle.draws.specs.Draws.{draw, word}
use Rattle.tape.specs.Layout.{square_count, group_count, triple_count, last_length}

-- how many groups of a kind a tape has
abbrev pub groups_of : ℕ → ℕ → ℕ
groups_of n zero = square_count n
groups_of n (suc zero) = group_count n
groups_of n (suc (suc zero)) = triple_count n
groups_of n (suc (suc (suc kind))) = 1

-- how many words each box has of a group
abbrev pub group_length : ℕ → ℕ → ℕ
group_length n zero = 2
group_length n (suc zero) = n + 1
group_length n (suc (suc zero)) = 3
group_length n (suc (suc (suc kind))) = last_length

-- ---- the draws: first k of a power group, then box 1's words, then box 2's a, or a and b, or a, b and c

abbrev pub choices : ℕ → ℕ
choices zero = 0
choices (suc zero) = 1
choices (suc (suc kind)) = 0

abbrev pub free_words : ℕ → ℕ
free_words zero = 1
free_words (suc zero) = 0
free_words (suc (suc zero)) = 2
free_words (suc (suc (suc kind))) = 3

-- 3 for a square, n + 2 for a power group, 5 for a triple, 10 for the last group
abbrev pub group_draws : ℕ → ℕ → ℕ
group_draws n kind = choices kind + group_length n kind + free_words kind

-- ---- what they become

-- word j of the group at box 1
abbrev pub first_word : ℕ → ℕ → ℕ → ℕ → ℕ
first_word n kind v j = word n v (choices kind + suc j)

-- word j at box 2, where it is drawn
abbrev pub free_word : ℕ → ℕ → ℕ → ℕ → ℕ
free_word n kind v j = word n v (choices kind + group_length n kind + suc j)

-- a is word 0 of both boxes, b word 1, c of the last group word 2
abbrev pub drawn_sum : ℕ → ℕ → ℕ → ℕ → ℕ
drawn_sum n kind v j = first_word n kind v j + free_word n kind v j

-- k of a power group
abbrev pub exponent : ℕ → ℕ → ℕ
exponent n v = draw v 1 % n

-- the products of the last group's masks, in their order
abbrev pub last_products : ℕ → ℕ → ℕ → List ℕ
last_products a b c = a * b ∷ a * c ∷ b * c ∷ a * b * c ∷ []

-- what both boxes' words come to, where box 2's is not drawn: q = a², w = 2^((n − k) mod n), the powers of r = 2^k, c = a·b, the last group's
-- products
unfoldable pub total : ℕ → ℕ → ℕ → ℕ → ℕ
total n zero v j = drawn_sum n 0 v 0 * drawn_sum n 0 v 0
total n (suc zero) v zero = 2 ^ ((n - exponent n v) % n)
total n (suc zero) v (suc j) = (2 ^ exponent n v) ^ suc j
total n (suc (suc zero)) v j = drawn_sum n 2 v 0 * drawn_sum n 2 v 1
total n (suc (suc (suc kind))) v j = get_or (last_products (drawn_sum n 3 v 0) (drawn_sum n 3 v 1) (drawn_sum n 3 v 2)) (j - 3) 0

-- word j at box 2: drawn, or what the equation leaves
abbrev pub second_word : ℕ → ℕ → ℕ → ℕ → ℕ
second_word n kind v j =
    cond (ltb j (free_words kind)) (free_word n kind v j) (minus n (total n kind v j % modulus n) (first_word n kind v j))

-- word j of the group at the box of that side
unfoldable pub group_word : ℕ → ℕ → ℕ → ℕ → ℕ → ℕ
group_word n side kind v j = cond (eqb side 1) (first_word n kind v j) (second_word n kind v j)
