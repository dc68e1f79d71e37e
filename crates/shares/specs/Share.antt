-- The share products of document 01, "The field and the shares", as one box works them out. All words are below p, but for one from the
-- line, which is read first.
use Rattle.std.specs.Prelude.{ℕ, ◌+◌, ◌*◌, ◌%◌, cond, eqb}
use Rattle.field.specs.Width.{modulus}
use Rattle.field.specs.Subtraction.{minus}
use Rattle.shares.specs.Reading.{read}

-- a box's share of a public constant: box 1 alone adds it
unfoldable pub constant_share : ℕ → ℕ → ℕ
constant_share side c = cond (eqb side 1) c 0

-- what a box sends to open v − a, a being its word of the mask
abbrev pub masked : ℕ → ℕ → ℕ → ℕ
masked n v a = minus n v a

-- an opened value: the word that was sent and the word that was heard, read
unfoldable pub opened : ℕ → ℕ → ℕ → ℕ
opened n sent heard = (sent + read n heard) % modulus n

-- the share of v², from the opened e = v − a and the dealt square (a, q)
unfoldable pub square_share : ℕ → ℕ → ℕ → ℕ → ℕ → ℕ
square_share n side e a q = (q + 2 * (e * a) + constant_share side (e * e)) % modulus n

-- the share of v · u, from the opened e = v − a, f = u − b and the Beaver triple (a, b, c)
unfoldable pub product_share : ℕ → ℕ → ℕ → ℕ → ℕ → ℕ → ℕ → ℕ
product_share n side e f a b c = (c + e * b + f * a + constant_share side (e * f)) % modulus n

-- the share of v · u · w, from the opened e = v − a, f = u − b, g = w − c and the dealt shares of a, b, c and of their products (document 02, P7)
unfoldable pub threefold_share : ℕ → ℕ → ℕ → ℕ → ℕ → ℕ → ℕ → ℕ → ℕ → ℕ → ℕ → ℕ → ℕ
threefold_share n side e f g a b c ab ac bc abc =
    (abc + e * bc + f * ac + g * ab + e * f * c + e * g * b + f * g * a + constant_share side (e * f * g)) % modulus n
