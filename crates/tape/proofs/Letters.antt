-- The places of the dealt letters: each letter of a count lies in its section, is the tape's word there, and is below p.
use Prim.Native.Nat.{ℕ, ◌+◌, ◌*◌, ◌<◌, ◌≤◌}
use mathlib.Core.List.{List}
use native.Mathlib.Nat.{mul-le-mul_right}
use native.Mathlib.Omega.{arith}
use Rattle.field.specs.Width.{modulus}
use Rattle.tape.specs.Layout.{square_count, group_count, triple_count, section_length, section}
use Rattle.tape.specs.Order.{Readable}
use Rattle.tape.specs.Letters.{square_mask, square_value, group_inverse, group_power, triple_left, triple_right, triple_product, last_letter}
use Rattle.tape.proofs.Sections.{section_below}

-- ---- the places

-- a place in rows of one width
pub row_place : (rows width row at : ℕ) → row < rows → at < width → row * width + at < rows * width
row_place rows width row at r a = omega (arith, mul-le-mul_right width r)

-- the group of a test and a level
pub group_index : (n test level : ℕ) → test < 3 → level < n → test * n + level < group_count n
group_index n test level = row_place 3 n test level

-- the square of a group and a bit
pub square_index : (n g bit : ℕ) → g < group_count n → bit < n → g * n + bit < square_count n
square_index n g bit inside b = omega (arith, row_place (group_count n) n g bit inside b)

pub square_place : (n i : ℕ) → i < square_count n → i * 2 + 1 < section_length n 0
square_place n i l = omega arith

pub group_place : (n g k : ℕ) → g < group_count n → k ≤ n → g * (n + 1) + k < section_length n 1
group_place n g k l most = row_place (group_count n) (n + 1) g k l (omega arith)

pub triple_place : (n i : ℕ) → i < triple_count n → i * 3 + 2 < section_length n 2
triple_place n i l = omega arith

pub last_place : (n k : ℕ) → k < 7 → triple_count n * 3 + k < section_length n 2
last_place n k l = omega arith

-- ---- the letters are below p

module _ {n : ℕ} {tape : List ℕ} (r : Readable n tape) where
  pub square_mask_below : (i : ℕ) → i < square_count n → square_mask (section n 0 tape) i < modulus n
  square_mask_below i l = section_below r 0 (omega arith) (i * 2) (omega arith)

  pub square_value_below : (i : ℕ) → i < square_count n → square_value (section n 0 tape) i < modulus n
  square_value_below i l = section_below r 0 (omega arith) (i * 2 + 1) (square_place n i l)

  pub group_power_below : (g k : ℕ) → g < group_count n → k ≤ n → group_power n (section n 1 tape) g k < modulus n
  group_power_below g k l most = section_below r 1 (omega arith) (g * (n + 1) + k) (group_place n g k l most)

  pub group_inverse_below : (g : ℕ) → g < group_count n → group_inverse n (section n 1 tape) g < modulus n
  group_inverse_below g l = section_below r 1 (omega arith) (g * (n + 1)) (omega (arith, group_place n g 0 l (omega arith)))

  pub triple_left_below : (i : ℕ) → i < triple_count n → triple_left (section n 2 tape) i < modulus n
  triple_left_below i l = section_below r 2 (omega arith) (i * 3) (omega arith)

  pub triple_right_below : (i : ℕ) → i < triple_count n → triple_right (section n 2 tape) i < modulus n
  triple_right_below i l = section_below r 2 (omega arith) (i * 3 + 1) (omega arith)

  pub triple_product_below : (i : ℕ) → i < triple_count n → triple_product (section n 2 tape) i < modulus n
  triple_product_below i l = section_below r 2 (omega arith) (i * 3 + 2) (triple_place n i l)

  pub last_below : (k : ℕ) → k < 7 → last_letter n (section n 2 tape) k < modulus n
  last_below k l = section_below r 2 (omega arith) (triple_count n * 3 + k) (last_place n k l)
