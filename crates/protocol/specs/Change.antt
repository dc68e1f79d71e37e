-- A device of the proof that one exchange gives nothing away; it stands here so that a wrong map can be tried, and nobody need believe it: a
-- box's shares, and the values in the clear that each product opens under them.
use Rattle.std.specs.Prelude.{ℕ, ◌+◌, ◌-◌, cond, List, [], ◌∷◌, ltb, get_or}
use Rattle.shares.specs.Side.{other}
use Rattle.shares.specs.Share.{constant_share}
use Rattle.protocol.specs.Tests.{doubled, low_bit}
use Rattle.protocol.specs.Products.{low_triple}
use Rattle.protocol.specs.Squares.{bit_difference}
use Rattle.protocol.specs.Clear.{shared_bits, low_sum_of, wrap_of, half_of}

-- the box of `side` has shares x and y, the other box xo and yo, at width n
pub record Shares : Type 0 where
  pub n : ℕ
  pub side : ℕ
  pub x : ℕ
  pub y : ℕ
  pub xo : ℕ
  pub yo : ℕ

abbrev pub shares_of : ℕ → ℕ → ℕ → ℕ → ℕ → ℕ → Shares
shares_of n side x y xo yo = record { n = n; side = side; x = x; y = y; xo = xo; yo = yo }

-- the share that square j opens
abbrev pub square_share_of : Shares → ℕ → ℕ
square_share_of s j = bit_difference s.n s.side (doubled s.n s.x s.y) j

-- A at group g
abbrev pub count_of : Shares → ℕ → ℕ
count_of s g = 1 + shared_bits s.n s.side s.x s.y s.xo s.yo g

abbrev pub low_of : Shares → ℕ → ℕ
low_of s t = low_bit s.n s.x s.y t

abbrev pub sum_of : Shares → ℕ → ℕ
sum_of s t = low_sum_of s.n s.x s.y s.xo s.yo t

abbrev pub wraps_of : Shares → ℕ → ℕ
wraps_of s t = wrap_of s.n s.x s.y s.xo s.yo t

abbrev pub halves_of : Shares → ℕ → ℕ
halves_of s t = half_of s.n s.x s.y s.xo s.yo t

-- by triple: the products A · w, then α · β and S · T of each test
abbrev pub by_triple : ℕ → (ℕ → ℕ) → List ℕ → ℕ → ℕ
by_triple n level rest i = cond (ltb i (low_triple n)) (level i) (get_or rest (i - low_triple n) 0)

-- the values of the left factors behind A. Of α · β it is the box's own share: the other box's does not change
abbrev pub left_values : Shares → List ℕ
left_values s =
    constant_share s.side (low_of s 0)
    ∷ constant_share s.side (low_of s 1)
    ∷ constant_share s.side (low_of s 2)
    ∷ sum_of s 0
    ∷ sum_of s 1
    ∷ sum_of s 2
    ∷ []

unfoldable pub left_value : Shares → ℕ → ℕ
left_value s i = by_triple s.n (count_of s) (left_values s) i

-- those of the right factors; w of A · w stands on the tape, as `inverses` says
abbrev pub right_values : Shares → List ℕ
right_values s =
    constant_share (other s.side) (low_of s 0)
    ∷ constant_share (other s.side) (low_of s 1)
    ∷ constant_share (other s.side) (low_of s 2)
    ∷ wraps_of s 0
    ∷ wraps_of s 1
    ∷ wraps_of s 2
    ∷ []

unfoldable pub right_value : Shares → (ℕ → ℕ) → ℕ → ℕ
right_value s inverses i = by_triple s.n inverses (right_values s) i
