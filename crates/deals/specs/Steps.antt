-- What the functions below a group work out.
use Rattle.std.specs.Prelude.{ℕ, zero, suc, ◌+◌, ◌-◌, ◌*◌, ◌%◌, ◌^◌, List, [], ◌∷◌, ◌++◌, length, get_or}
use Rattle.lists.specs.Tabulate.{tabulate}
use Rattle.field.specs.Width.{modulus}
use Rattle.field.specs.Subtraction.{minus}
use Rattle.draws.specs.Draws.{draw, word}
use Rattle.deals.specs.Groups.{last_products}

-- the first so many draws after v, modulo p
abbrev pub drawn_words : ℕ → ℕ → ℕ → List ℕ
drawn_words n v count = tabulate count (λ j. word n v (suc j))

-- the product of both boxes' first words and their last but one, less box 1's last
abbrev pub product_left : ℕ → List ℕ → List ℕ → ℕ
product_left n w1 w2 =
    let last = length w1 - 1 in
    minus n ((get_or w1 0 0 + get_or w2 0 0) * (get_or w1 (last - 1) 0 + get_or w2 (last - 1) 0) % modulus n) (get_or w1 last 0)

-- box 2's words of a square or a triple of so many words
abbrev pub product_words : ℕ → ℕ → ℕ → List ℕ
product_words n v count =
    let own = drawn_words n v count in
    let others = drawn_words n (draw v count) (count - 1) in
    others ++ (product_left n own others ∷ [])

-- w, r, r², ..
abbrev pub power_at : ℕ → ℕ → ℕ → ℕ → ℕ
power_at n w r zero = w
power_at n w r (suc j) = r ^ suc j % modulus n

-- box 2's last four words of the last group: what is left of the products of both boxes' a, b and c
abbrev pub threefold_left : ℕ → List ℕ → List ℕ → List ℕ
threefold_left n w1 w2 =
    let mask : ℕ → ℕ = λ j. get_or w1 j 0 + get_or w2 j 0 in
    tabulate 4 (λ j. minus n (get_or (last_products (mask 0) (mask 1) (mask 2)) j 0 % modulus n) (get_or w1 (3 + j) 0))

-- box 2's words of the last group
abbrev pub threefold_words : ℕ → ℕ → List ℕ
threefold_words n v =
    let own = drawn_words n v 7 in
    let others = drawn_words n (draw v 7) 3 in
    others ++ threefold_left n own others
