-- The encodings of document 003 by document 01, "The wrap of a share pair": two numbers X and v, of which X < v just when some level has equal codes.
use Rattle.std.specs.Prelude.{ℕ, ◌+◌, ◌-◌, ◌/◌, ◌%◌, ◌^◌, cond, eqb}
use Rattle.field.specs.Width.{modulus}

-- bit k of a number
abbrev pub bit_of : ℕ → ℕ → ℕ
bit_of v k = v / 2 ^ k % 2

-- range encoding at a level, of box 1's X. No point code equals 2^n − 1 (document 01's filler)
unfoldable pub range_code : ℕ → ℕ → ℕ → ℕ
range_code n X level = cond (eqb (bit_of X level) 0) (X / 2 ^ level + 1) (2 ^ n - 1)

-- point encoding at a level, of box 2's v
unfoldable pub point_code : ℕ → ℕ → ℕ
point_code v level = v / 2 ^ level

-- document 01's X, from box 1's share: the pair wraps just when box 2's share is above it
abbrev pub wrap_bound : ℕ → ℕ → ℕ
wrap_bound n v = modulus n - 1 - v

-- a box's code at a level, from its share v. Box 1 encodes X
unfoldable pub level_code : ℕ → ℕ → ℕ → ℕ → ℕ
level_code n side v level = cond (eqb side 1) (range_code n (wrap_bound n v) level) (point_code v level)
