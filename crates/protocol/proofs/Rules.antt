-- The shifted tape makes, with the other box's, a pair dealt by the rules again.
use Prim.Native.Nat.{ℕ, ◌+◌, ◌*◌, ◌%◌, ◌^◌, ◌<◌, ◌≤◌}
use mathlib.Core.Path.{◌≡◌, sym, ap, ◌∙◌}
use mathlib.Core.Bool.{true}
use mathlib.Core.List.{List}
use native.Mathlib.Nat.{le_of_lt, pow-suc, pow-zero, one-mul}
use native.Mathlib.Omega.{arith}
use borrow.Author.Tests.{eq-eqb}
use lib.Dec.{eqb}
use lib.ListN.{get_or}
use Rattle.field.proofs.Subtraction.{minus_plus}
use Rattle.field.specs.Width.{modulus, listed}
use Rattle.field.specs.Congruence.{Cong}
use Rattle.field.specs.Inverse.{inverse}
use Rattle.field.proofs.Widths.{bounds}
use Rattle.field.proofs.Congruences.{cong_refl, cong_eq, cong_sym, ◌⊙◌, cong_mul, cong_pow}
use Rattle.tape.specs.Layout.{section, square_count, group_count, triple_count}
use Rattle.tape.specs.Letters.{square_mask, square_value, group_inverse, group_power, triple_left, triple_right, triple_product, last_letter}
use Rattle.tape.specs.Dealt.{square_pair, inverse_pair, power_pair, triple_group, threefold_group, Matched}
use Rattle.tape.proofs.Orders.{in_order_lem, order_trailer}
use Rattle.tape.proofs.Letters.{square_value_below, group_inverse_below, group_power_below, triple_product_below, last_below}
use Rattle.tape.proofs.Dealing.{own_readable, others_readable, own_side, dealt_inverse, dealt_power}
use Rattle.encoding.proofs.Bits.{same_most}
use Rattle.protocol.specs.Clear.{shared_bits}
use Rattle.protocol.proofs.Wraps.{inverse_total, mask_total, pow_times}
use Rattle.protocol.specs.Change.{Shares, shares_of, count_of}
use Rattle.protocol.specs.Shift.{new_mask, new_value, new_inverse, new_power, new_left, new_right, new_product, new_last, new_last_product, new_sum, last_row, shifted}
use Rattle.protocol.proofs.Pieces.{shifted_length, shifted_trailer, shifted_below, new_mask_lem, new_value_lem, new_inverse_lem, new_power_lem, new_left_lem, new_right_lem, new_product_lem, last_word}
use Rattle.protocol.proofs.Units.{unit}

pow_one : (a : ℕ) → a ^ 1 ≡ a
pow_one a = pow-suc a 0 ∙ ap (λ (k : ℕ). k * a) (pow-zero a) ∙ one-mul a

-- a test of two remainders
remainders : {p a b : ℕ} → Cong p a b → eqb (a % p) (b % p) ≡ true
remainders {p} {a} {b} h = eq-eqb (a % p) (b % p) h.same

-- A lies in 1 .. n + 1
pub count_low : (s : Shares) (g : ℕ) → 1 ≤ count_of s g
count_low s g = omega arith

pub count_high : (s : Shares) (g : ℕ) → count_of s g ≤ s.n + 1
count_high s g =
    let most : shared_bits s.n s.side s.x s.y s.xo s.yo g ≤ s.n = same_most s.n _ _ in
    omega arith

module _ {n pair number side : ℕ} {own others : List ℕ} (m : Matched n pair number side own others) (x y x' y' xo yo : ℕ) where
  abbrev pub s : Shares
  s = shares_of n side x y xo yo

  abbrev pub s' : Shares
  s' = shares_of n side x' y' xo yo

  l : listed n ≡ true
  l = (own_readable m).width

  -- A / A' and A' / A
  abbrev pub down : ℕ → ℕ
  down g = count_of s g * inverse n (count_of s' g)

  abbrev pub up : ℕ → ℕ
  up g = count_of s' g * inverse n (count_of s g)

  pub units : (g : ℕ) → Cong (modulus n) (down g * up g) 1
  units g = unit n l (count_of s g) (count_of s' g) (count_low s g) (count_high s g) (count_low s' g) (count_high s' g)

  -- ---- the totals of the new letters

  pub inverse_total_lem : (g : ℕ) → g < group_count n
      → Cong (modulus n) (new_inverse s s' own others g + group_inverse n (section n 1 others) g) (inverse_total n own others g * down g)
  unfolding new_inverse
  inverse_total_lem g less = minus_plus n _ _ (le_of_lt (group_inverse_below (others_readable m) g less))

  pub power_total : (g k : ℕ) → g < group_count n → 1 ≤ k → k ≤ n
      → Cong (modulus n) (new_power s s' own others g k + group_power n (section n 1 others) g k) ((mask_total n own others g * up g) ^ k)
  unfolding new_power
  power_total g k less low high =
      minus_plus n _ _ (le_of_lt (group_power_below (others_readable m) g k less high))
      ⊙ cong_mul (dealt_power m g k less low high) cong_refl
      ⊙ cong_eq (sym (pow_times (mask_total n own others g) (up g) k))

  -- w' · r' = 1
  inverses_meet : (g : ℕ) → g < group_count n
      → Cong (modulus n)
      ((new_inverse s s' own others g + group_inverse n (section n 1 others) g) * (new_power s s' own others g 1 + group_power n (section n 1 others) g 1)) 1
  inverses_meet g less =
      cong_mul (inverse_total_lem g less)
      (power_total g 1 less (omega arith) (omega (arith, bounds l)) ⊙ cong_eq (pow_one (mask_total n own others g * up g)))
      ⊙ cong_eq {b = (inverse_total n own others g * mask_total n own others g) * (down g * up g)} (omega arith)
      ⊙ cong_mul (dealt_inverse m g less) (units g)

  square_meets : (j : ℕ) → j < square_count n
      → Cong (modulus n) (new_value s s' own others j + square_value (section n 0 others) j)
      ((new_mask s s' own others j + square_mask (section n 0 others) j) * (new_mask s s' own others j + square_mask (section n 0 others) j))
  unfolding new_value
  square_meets j less = minus_plus n _ _ (le_of_lt (square_value_below (others_readable m) j less))

  powers_meet : (g k : ℕ) → g < group_count n → 1 ≤ k → k ≤ n
      → Cong (modulus n) (new_power s s' own others g k + group_power n (section n 1 others) g k)
      ((new_power s s' own others g 1 + group_power n (section n 1 others) g 1) ^ k)
  powers_meet g k less low high =
      power_total g k less low high
      ⊙ cong_sym
      (cong_pow k
      (power_total g 1 less (omega arith) (omega (arith, bounds l)) ⊙ cong_eq (pow_one (mask_total n own others g * up g))))

  triple_meets : (i : ℕ) → i < triple_count n
      → Cong (modulus n) (new_product s s' own others i + triple_product (section n 2 others) i)
      ((new_left s s' own others i + triple_left (section n 2 others) i) * (new_right s s' own others i + triple_right (section n 2 others) i))
  unfolding new_product
  triple_meets i less = minus_plus n _ _ (le_of_lt (triple_product_below (others_readable m) i less))

  -- a product of the last group's new masks
  last_meets : (product k : ℕ) → k < 7
      → Cong (modulus n) (new_last_product s s' own others product k + last_letter n (section n 2 others) k) product
  unfolding new_last_product
  last_meets product k less = minus_plus n _ _ (le_of_lt (last_below (others_readable m) k less))

  abbrev sum : ℕ → ℕ
  sum k = new_sum s s' own others k

  pub matched_shifted : Matched n pair number side (shifted s s' own others) others
  unfolding square_pair inverse_pair power_pair triple_group threefold_group last_row
  matched_shifted =
      record {
        own_order =
            in_order_lem n pair side number (shifted s s' own others) l (own_side m)
            (shifted_length s s' own others (own_readable m).long)
            (λ k less. shifted_trailer s s' own others k ∙ order_trailer n pair side number own m.own_order k less)
            (shifted_below s s' own others l);
        others_order = m.others_order;
        squares = λ j less.
            rw (new_mask_lem s s' own others j less, new_value_lem s s' own others j less) (remainders (square_meets j less));
        inverses = λ g less.
            rw (new_inverse_lem s s' own others g less, new_power_lem s s' own others g 1 less (omega arith) (omega (arith, bounds l)))
            (remainders (inverses_meet g less));
        powers = λ g k less low high.
            rw (new_power_lem s s' own others g k less low high, new_power_lem s s' own others g 1 less (omega arith) (omega (arith, bounds l)))
            (remainders (powers_meet g k less low high));
        triples = λ i less.
            rw (new_left_lem s s' own others i less, new_right_lem s s' own others i less, new_product_lem s s' own others i less)
            (remainders (triple_meets i less));
        last_ab = rw (word 0, word 1, word 3) (remainders (last_meets (sum 0 * sum 1) 3 (omega arith)));
        last_ac = rw (word 0, word 2, word 4) (remainders (last_meets (sum 0 * sum 2) 4 (omega arith)));
        last_bc = rw (word 1, word 2, word 5) (remainders (last_meets (sum 1 * sum 2) 5 (omega arith)));
        last_abc = rw (word 0, word 1, word 2, word 6) (remainders (last_meets (sum 0 * sum 1 * sum 2) 6 (omega arith)));
      }
    where
      word : (k : ℕ) → last_letter n (section n 2 (shifted s s' own others)) k ≡ get_or (last_row s s' own others) k 0
      word k = last_word s s' own others k
