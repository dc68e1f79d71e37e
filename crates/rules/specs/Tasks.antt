-- What a start asks of its jobs: so many comparisons of lent shares (document 02, P9), or whether a lies in the band between two public bounds c1 and c2
-- (P10), which is two comparisons, c1 < a and a < c2.
use Rattle.std.specs.Prelude.{ℕ, ◌+◌, ◌%◌, Bool, ◌&&◌, List, [], ◌∷◌, ltb, get_or}
use Rattle.field.specs.Width.{modulus}
use Rattle.field.specs.Subtraction.{minus}
use Rattle.shares.specs.Share.{constant_share}
use Rattle.protocol.specs.Sizes.{count_fits}
use Rattle.rules.specs.declared.state.Task.{Task}
use Rattle.rules.specs.declared.state.Task.TheVariants.{Compare, Band}

abbrev pub count_of : Task → ℕ
count_of (Compare count) = count
count_of (Band low high) = 2

-- the bounds of a band: c1 < c2 < p
abbrev pub bounds_fit : ℕ → ℕ → ℕ → Bool
bounds_fit n low high = ltb low high && ltb high (modulus n)

-- 1 to 8 comparisons, or a band with such bounds
abbrev pub task_fits : ℕ → Task → Bool
task_fits n (Compare count) = count_fits count
task_fits n (Band low high) = bounds_fit n low high

-- the shares of x and y of the first comparison, then of the next, from the list that a start is lent. A list of comparisons has just these. A band's has
-- the one share of a, and a bound's share is the bound at box 1 and 0 at box 2
abbrev pub pairs_of : ℕ → Task → List ℕ → List ℕ
pairs_of side (Compare count) shares = shares
pairs_of side (Band low high) shares =
    let a = get_or shares 0 0 in
    constant_share side low ∷ a ∷ a ∷ constant_share side high ∷ []

-- how many answer shares a box gives: one for each comparison, and one for a band
abbrev pub answer_count : Task → ℕ
answer_count (Compare count) = count
answer_count (Band low high) = 1

-- since c1 < c2 at least one of a band's two comparisons is true, so its bit is their sum less 1, a public constant, which box 1 takes off
abbrev pub band_share : ℕ → ℕ → ℕ → ℕ → ℕ
band_share n side v v' = minus n ((v + v') % modulus n) (constant_share side 1)
