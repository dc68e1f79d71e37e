-- A device of the proof that one exchange gives nothing away; it stands here so that a wrong map can be tried, and nobody need believe it: the
-- map from a box's tape for one pair of shares to its tape for another, the other box's tape being fixed. Each mask moves with the value
-- that it hides, each word that follows from an equation is made anew.
use Rattle.std.specs.Prelude.{ℕ, ◌+◌, ◌*◌, ◌/◌, ◌%◌, ◌^◌, cond, List, [], ◌∷◌, ◌++◌, eqb, get_or, drop}
use Rattle.lists.specs.Tabulate.{tabulate}
use Rattle.field.specs.Width.{modulus}
use Rattle.field.specs.Subtraction.{minus}
use Rattle.field.specs.Inverse.{inverse}
use Rattle.tape.specs.Layout.{section, section_length, body_length, triple_count}
use Rattle.tape.specs.Letters.{square_mask, square_value, group_inverse, group_power, triple_left, triple_right, triple_product, last_letter}
use Rattle.protocol.specs.Change.{Shares, square_share_of, count_of, left_value, right_value, halves_of}

-- a mask word, moved by v' − v
unfoldable pub moved : ℕ → ℕ → ℕ → ℕ → ℕ
moved n a v v' = (a + minus n v' v) % modulus n

-- word j of rows of so many words each
abbrev pub by_row : ℕ → (ℕ → ℕ → ℕ) → ℕ → ℕ
by_row stride row j = row (j / stride) (j % stride)

-- s are the shares before, s' those after; `own` is the box's tape and `others` the other box's
module _ (s s' : Shares) (own others : List ℕ) where
  abbrev pub width : ℕ
  width = s.n

  -- ---- squares: a moves with the share, q follows

  unfoldable pub new_mask : ℕ → ℕ
  new_mask j = moved width (square_mask (section width 0 own) j) (square_share_of s j) (square_share_of s' j)

  unfoldable pub new_value : ℕ → ℕ
  new_value j =
      let a = new_mask j + square_mask (section width 0 others) j in
      minus width (a * a) (square_value (section width 0 others) j)

  -- ---- power groups: r is multiplied by ρ = A' / A, w divided

  unfoldable pub new_inverse : ℕ → ℕ
  new_inverse g =
      minus width
      ((group_inverse width (section width 1 own) g + group_inverse width (section width 1 others) g) * (count_of s g * inverse width (count_of s' g)))
      (group_inverse width (section width 1 others) g)

  unfoldable pub new_power : ℕ → ℕ → ℕ
  new_power g k =
      minus width
      ((group_power width (section width 1 own) g k + group_power width (section width 1 others) g k) * (count_of s' g * inverse width (count_of s g)) ^ k)
      (group_power width (section width 1 others) g k)

  -- ---- triples: a and b move with the factors, c follows

  unfoldable pub new_left : ℕ → ℕ
  new_left i = moved width (triple_left (section width 2 own) i) (left_value s i) (left_value s' i)

  unfoldable pub new_right : ℕ → ℕ
  new_right i =
      moved width (triple_right (section width 2 own) i)
      (right_value s (λ g. group_inverse width (section width 1 own) g) i)
      (right_value s' new_inverse i)

  unfoldable pub new_product : ℕ → ℕ
  new_product i =
      minus width
      ((new_left i + triple_left (section width 2 others) i) * (new_right i + triple_right (section width 2 others) i))
      (triple_product (section width 2 others) i)

  -- ---- the last group: a, b and c move with the half tests, their products follow

  unfoldable pub new_last : ℕ → ℕ
  new_last k = moved width (last_letter width (section width 2 own) k) (halves_of s k) (halves_of s' k)

  -- both boxes' word k of the new masks
  abbrev pub new_sum : ℕ → ℕ
  new_sum k = new_last k + last_letter width (section width 2 others) k

  -- word k, a product of theirs
  unfoldable pub new_last_product : ℕ → ℕ → ℕ
  new_last_product product k = minus width product (last_letter width (section width 2 others) k)

  -- ---- the tape

  abbrev pub square_row : ℕ → ℕ → ℕ
  square_row i k = cond (eqb k 0) (new_mask i) (new_value i)

  abbrev pub power_row : ℕ → ℕ → ℕ
  power_row g k = cond (eqb k 0) (new_inverse g) (new_power g k)

  abbrev pub triple_row : ℕ → ℕ → ℕ
  triple_row i k = get_or (new_left i ∷ new_right i ∷ new_product i ∷ []) k 0

  unfoldable pub last_row : List ℕ
  last_row =
      new_last 0
      ∷ new_last 1
      ∷ new_last 2
      ∷ new_last_product (new_sum 0 * new_sum 1) 3
      ∷ new_last_product (new_sum 0 * new_sum 2) 4
      ∷ new_last_product (new_sum 1 * new_sum 2) 5
      ∷ new_last_product (new_sum 0 * new_sum 1 * new_sum 2) 6
      ∷ []

  -- the shifted tape; its trailer stays
  unfoldable pub shifted : List ℕ
  shifted =
      tabulate (section_length width 0) (by_row 2 square_row)
      ++ (tabulate (section_length width 1) (by_row (width + 1) power_row)
      ++ ((tabulate (triple_count width * 3) (by_row 3 triple_row) ++ last_row)
      ++ drop (body_length width) own))
