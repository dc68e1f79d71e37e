-- What is right: the bits that the two boxes' answer shares are to add up to, for what their starts were lent.
use Rattle.std.specs.Prelude.{ℕ, ◌+◌, ◌%◌, ◌&&◌, List, ltb, get_or}
use Rattle.field.specs.Width.{modulus}
use Rattle.encoding.specs.Matching.{indicator}
use Rattle.rules.specs.Batches.{x_in, y_in}
use Rattle.rules.specs.declared.state.Task.{Task}
use Rattle.rules.specs.declared.state.Task.TheVariants.{Compare, Band}

-- of comparison i 1 if its x < y, of a band 1 if c1 < a < c2, and 0 otherwise, where x and y, and a, are what the two boxes' shares add up to
abbrev pub right_bit : ℕ → Task → List ℕ → List ℕ → ℕ → ℕ
right_bit n (Compare count) shares1 shares2 i =
    indicator (ltb ((x_in shares1 i + x_in shares2 i) % modulus n) ((y_in shares1 i + y_in shares2 i) % modulus n))
right_bit n (Band low high) shares1 shares2 i =
    let a = (get_or shares1 0 0 + get_or shares2 0 0) % modulus n in
    indicator (ltb low a && ltb a high)
