-- What the two boxes may use of a pair of tapes dealt by the rules, and that the rules do not tell the boxes apart.
use Prim.Native.Nat.{ℕ, ◌+◌, ◌*◌, ◌^◌, ◌<◌, ◌≤◌}
use mathlib.Core.Path.{◌≡◌}
use mathlib.Core.Bool.{true}
use mathlib.Core.List.{List}
use native.Mathlib.Nat.{add_comm, le_of_lt, mod-eq_of_lt, zero-mod}
use native.Mathlib.Omega.{arith}
use borrow.Author.Tests.{eqb-true}
use Rattle.field.specs.Width.{modulus}
use Rattle.field.specs.Congruence.{Cong}
use Rattle.field.proofs.Widths.{bounds}
use Rattle.field.proofs.Congruences.{cong_refl, cong_eq, cong_sym, ◌⊙◌, cong_mul}
use Rattle.shares.specs.Side.{is_side, other}
use Rattle.shares.proofs.Sides.{other_twice}
use Rattle.shares.proofs.Products.{DealtSquare, DealtTriple, DealtThreefold}
use Rattle.tape.specs.Layout.{square_count, group_count, triple_count, section}
use Rattle.tape.specs.Order.{Readable}
use Rattle.tape.specs.Letters.{square_mask, square_value, group_inverse, group_power, triple_left, triple_right, triple_product, last_letter}
use Rattle.tape.specs.Dealt.{square_pair, inverse_pair, power_pair, triple_group, threefold_group, last_sum, Matched}
use Rattle.tape.proofs.Orders.{readable, order_side}
use Rattle.tape.proofs.Letters.{square_mask_below, triple_left_below, triple_right_below, last_below}

module _ {n pair number side : ℕ} {own others : List ℕ} (m : Matched n pair number side own others) where
  pub own_readable : Readable n own
  own_readable = readable n pair side number own m.own_order

  pub others_readable : Readable n others
  others_readable = readable n pair (other side) number others m.others_order

  pub own_side : is_side side ≡ true
  own_side = order_side n pair side number own m.own_order

  pub dealt_square : (i : ℕ) → i < square_count n
      → DealtSquare n (square_mask (section n 0 own) i) (square_value (section n 0 own) i)
      (square_mask (section n 0 others) i) (square_value (section n 0 others) i)
  unfolding square_pair
  dealt_square i l =
      record {
        first = le_of_lt (square_mask_below own_readable i l);
        second = le_of_lt (square_mask_below others_readable i l);
        square = record { same = eqb-true _ _ (m.squares i l) };
      }

  pub dealt_triple : (i : ℕ) → i < triple_count n
      → DealtTriple n (triple_left (section n 2 own) i) (triple_right (section n 2 own) i) (triple_product (section n 2 own) i)
      (triple_left (section n 2 others) i) (triple_right (section n 2 others) i) (triple_product (section n 2 others) i)
  unfolding triple_group
  dealt_triple i l =
      record {
        first_left = le_of_lt (triple_left_below own_readable i l);
        first_right = le_of_lt (triple_right_below own_readable i l);
        second_left = le_of_lt (triple_left_below others_readable i l);
        second_right = le_of_lt (triple_right_below others_readable i l);
        product = record { same = eqb-true _ _ (m.triples i l) };
      }

  -- two masks of the last group and their product are a triple
  last_triple : (i j k : ℕ) → i < 7 → j < 7
      → triple_group n (last_sum n own others i) (last_sum n own others j) (last_sum n own others k) ≡ true
      → DealtTriple n (last_letter n (section n 2 own) i) (last_letter n (section n 2 own) j) (last_letter n (section n 2 own) k)
      (last_letter n (section n 2 others) i) (last_letter n (section n 2 others) j) (last_letter n (section n 2 others) k)
  unfolding triple_group
  last_triple i j k li lj e =
      record {
        first_left = le_of_lt (last_below own_readable i li);
        first_right = le_of_lt (last_below own_readable j lj);
        second_left = le_of_lt (last_below others_readable i li);
        second_right = le_of_lt (last_below others_readable j lj);
        product = record { same = eqb-true _ _ e };
      }

  pub dealt_last :
      let own_word = last_letter n (section n 2 own) in
      let other_word = last_letter n (section n 2 others) in
      DealtThreefold n (own_word 0) (own_word 1) (own_word 2) (own_word 3) (own_word 4) (own_word 5) (own_word 6)
      (other_word 0) (other_word 1) (other_word 2) (other_word 3) (other_word 4) (other_word 5) (other_word 6)
  unfolding threefold_group
  dealt_last =
      record {
        ab = last_triple 0 1 3 (omega arith) (omega arith) m.last_ab;
        ac = last_triple 0 2 4 (omega arith) (omega arith) m.last_ac;
        bc = last_triple 1 2 5 (omega arith) (omega arith) m.last_bc;
        abc = record { same = eqb-true _ _ m.last_abc };
      }

  pub dealt_inverse : (g : ℕ) → g < group_count n
      → Cong (modulus n) ((group_inverse n (section n 1 own) g + group_inverse n (section n 1 others) g)
      * (group_power n (section n 1 own) g 1 + group_power n (section n 1 others) g 1)) 1
  unfolding inverse_pair
  dealt_inverse g l = record { same = eqb-true _ _ (m.inverses g l) }

  pub dealt_power : (g k : ℕ) → g < group_count n → 1 ≤ k → k ≤ n
      → Cong (modulus n) (group_power n (section n 1 own) g k + group_power n (section n 1 others) g k)
      ((group_power n (section n 1 own) g 1 + group_power n (section n 1 others) g 1) ^ k)
  unfolding power_pair
  dealt_power g k l least most = record { same = eqb-true _ _ (m.powers g k l least most) }

  -- what has an inverse is not 0
  pub dealt_unit : (g : ℕ) → g < group_count n
      → Cong (modulus n) (group_power n (section n 1 own) g 1 + group_power n (section n 1 others) g 1) 0 → ⊥
  dealt_unit g l gone =
      let w = group_inverse n (section n 1 own) g + group_inverse n (section n 1 others) g in
      let none : Cong (modulus n) 0 1 =
      cong_eq {b = w * 0} (omega arith) ⊙ cong_mul cong_refl (cong_sym gone) ⊙ dealt_inverse g l in
      let more : 1 < modulus n = omega (arith, bounds own_readable.width) in
      omega (arith, zero-mod (modulus n), mod-eq_of_lt more)

  -- the sums are the same in either order
  pub matched_swap : Matched n pair number (other side) others own
  matched_swap =
      record {
        own_order = m.others_order;
        others_order = rw (other_twice side own_side) m.own_order;
        squares = λ i l.
            rw (add_comm (square_mask (section n 0 others) i), add_comm (square_value (section n 0 others) i)) (m.squares i l);
        inverses = λ g l.
            rw (add_comm (group_inverse n (section n 1 others) g), add_comm (group_power n (section n 1 others) g 1)) (m.inverses g l);
        powers = λ g k l least most.
            rw (add_comm (group_power n (section n 1 others) g 1), add_comm (group_power n (section n 1 others) g k))
            (m.powers g k l least most);
        triples = λ i l.
            rw (
              add_comm (triple_left (section n 2 others) i),
              add_comm (triple_right (section n 2 others) i),
              add_comm (triple_product (section n 2 others) i),
            ) (m.triples i l);
        last_ab = rw (swap 0, swap 1, swap 3) m.last_ab;
        last_ac = rw (swap 0, swap 2, swap 4) m.last_ac;
        last_bc = rw (swap 1, swap 2, swap 5) m.last_bc;
        last_abc = rw (swap 0, swap 1, swap 2, swap 6) m.last_abc;
      }
    where
      swap : (k : ℕ) → last_sum n others own k ≡ last_sum n own others k
      swap k = add_comm (last_letter n (section n 2 others) k) (last_letter n (section n 2 own) k)
