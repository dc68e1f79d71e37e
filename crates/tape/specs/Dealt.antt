-- A pair of tapes dealt by the rules (document 01, "The tape"): both in order, and the summed letters meet the equations.
use Rattle.std.specs.Prelude.{ℕ, ◌+◌, ◌*◌, ◌%◌, ◌^◌, ◌<◌, ◌≤◌, ◌≡◌, Bool, true, List, eqb}
use Rattle.field.specs.Width.{modulus}
use Rattle.shares.specs.Side.{other}
use Rattle.tape.specs.Layout.{square_count, group_count, triple_count, section}
use Rattle.tape.specs.Order.{in_order}
use Rattle.tape.specs.Letters.{square_mask, square_value, group_inverse, group_power, triple_left, triple_right, triple_product, last_letter}

-- the summed letters of a square: q = a²
unfoldable pub square_pair : ℕ → ℕ → ℕ → Bool
square_pair n a q = eqb (q % modulus n) (a * a % modulus n)

-- w · r = 1
unfoldable pub inverse_pair : ℕ → ℕ → ℕ → Bool
inverse_pair n w r = eqb (w * r % modulus n) (1 % modulus n)

-- the k-th power word is r^k
unfoldable pub power_pair : ℕ → ℕ → ℕ → ℕ → Bool
power_pair n k r power = eqb (power % modulus n) (r ^ k % modulus n)

-- c = a · b
unfoldable pub triple_group : ℕ → ℕ → ℕ → ℕ → Bool
triple_group n a b c = eqb (c % modulus n) (a * b % modulus n)

-- abc = a · b · c
unfoldable pub threefold_group : ℕ → ℕ → ℕ → ℕ → ℕ → Bool
threefold_group n a b c abc = eqb (abc % modulus n) (a * b * c % modulus n)

-- both boxes' word k of the last group, summed
abbrev pub last_sum : ℕ → List ℕ → List ℕ → ℕ → ℕ
last_sum n own others k = last_letter n (section n 2 own) k + last_letter n (section n 2 others) k

-- `own` is the tape of the box of that side, `others` the other box's
pub record Matched (n pair number side : ℕ) (own others : List ℕ) : Type 0 where
  pub own_order : in_order n pair side number own ≡ true
  pub others_order : in_order n pair (other side) number others ≡ true
  pub squares : (i : ℕ) → i < square_count n
      → square_pair n (square_mask (section n 0 own) i + square_mask (section n 0 others) i)
      (square_value (section n 0 own) i + square_value (section n 0 others) i)
      ≡ true
  pub inverses : (g : ℕ) → g < group_count n
      → inverse_pair n (group_inverse n (section n 1 own) g + group_inverse n (section n 1 others) g)
      (group_power n (section n 1 own) g 1 + group_power n (section n 1 others) g 1)
      ≡ true
  pub powers : (g k : ℕ) → g < group_count n → 1 ≤ k → k ≤ n
      → power_pair n k (group_power n (section n 1 own) g 1 + group_power n (section n 1 others) g 1)
      (group_power n (section n 1 own) g k + group_power n (section n 1 others) g k)
      ≡ true
  pub triples : (i : ℕ) → i < triple_count n
      → triple_group n (triple_left (section n 2 own) i + triple_left (section n 2 others) i)
      (triple_right (section n 2 own) i + triple_right (section n 2 others) i)
      (triple_product (section n 2 own) i + triple_product (section n 2 others) i)
      ≡ true
  pub last_ab : triple_group n (last_sum n own others 0) (last_sum n own others 1) (last_sum n own others 3) ≡ true
  pub last_ac : triple_group n (last_sum n own others 0) (last_sum n own others 2) (last_sum n own others 4) ≡ true
  pub last_bc : triple_group n (last_sum n own others 1) (last_sum n own others 2) (last_sum n own others 5) ≡ true
  pub last_abc : threefold_group n (last_sum n own others 0) (last_sum n own others 1) (last_sum n own others 2) (last_sum n own others 6) ≡ true

-- box 1's tape and box 2's
abbrev pub Dealt : ℕ → ℕ → ℕ → List ℕ → List ℕ → Type 0
Dealt n pair number t1 t2 = Matched n pair number 1 t1 t2
