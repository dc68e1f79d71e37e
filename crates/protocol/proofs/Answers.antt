-- The two boxes' answer shares add up to the five rounds' form of the answer, H, U and Z being what their shares of the half tests add up to.
use Prim.Native.Nat.{ℕ, ◌+◌, ◌*◌, ◌%◌, ◌<◌, ◌≤◌}
use mathlib.Core.Path.{◌≡◌, ap, ◌∙◌}
use mathlib.Core.Bool.{true}
use mathlib.Core.List.{List}
use native.Mathlib.Nat.{le_of_lt}
use native.Mathlib.Omega.{arith}
use lib.ListN.{get_or}
use Rattle.field.specs.Width.{modulus, listed}
use Rattle.field.specs.Congruence.{Cong}
use Rattle.field.proofs.Congruences.{cong_eq, ◌⊙◌, cong_mod, cong_add, cong_mul, cong_double}
use Rattle.shares.specs.Side.{other}
use Rattle.shares.specs.Share.{constant_share, masked, opened, product_share, threefold_share}
use Rattle.shares.proofs.Sides.{constant_total}
use Rattle.shares.proofs.Products.{opened_both, product_total, threefold_total}
use Rattle.tape.specs.Layout.{section}
use Rattle.tape.specs.Letters.{last_letter}
use Rattle.tape.specs.Dealt.{Matched}
use Rattle.tape.proofs.Dealing.{own_readable, own_side, dealt_last}
use Rattle.protocol.specs.Answer.{half_opening, half_opened, answer_from}
use Rattle.protocol.specs.Forms.{five_rounds}
use Rattle.protocol.proofs.Below.{mod_below}
use Rattle.protocol.proofs.Totals.{difference_total}

-- v1 and v2 are the boxes' shares of the half tests, and each hears what the other sends
module _ {n pair number side : ℕ} {t1 t2 : List ℕ} (m : Matched n pair number side t1 t2) (v1 v2 : ℕ → ℕ) (incoming1 incoming2 : List ℕ)
    (heard1 : (k : ℕ) → k < 3 → get_or incoming1 k 0 ≡ half_opening n v2 (section n 2 t2) k)
    (heard2 : (k : ℕ) → k < 3 → get_or incoming2 k 0 ≡ half_opening n v1 (section n 2 t1) k) where
  l : listed n ≡ true
  l = (own_readable m).width

  -- the boxes' words of the last group
  abbrev m1 : ℕ → ℕ
  m1 k = last_letter n (section n 2 t1) k

  abbrev m2 : ℕ → ℕ
  m2 k = last_letter n (section n 2 t2) k

  -- e, f and g: both boxes open the same
  abbrev opens : ℕ → ℕ
  opens k = opened n (masked n (v1 k) (m1 k)) (masked n (v2 k) (m2 k))

  first_opens : (k : ℕ) → k < 3 → half_opened n v1 (section n 2 t1) incoming1 k ≡ opens k
  unfolding half_opened half_opening
  first_opens k less = ap (λ (w : ℕ). opened n (masked n (v1 k) (m1 k)) w) (heard1 k less)

  second_opens : (k : ℕ) → k < 3 → half_opened n v2 (section n 2 t2) incoming2 k ≡ opens k
  unfolding half_opened half_opening
  second_opens k less =
      ap (λ (w : ℕ). opened n (masked n (v2 k) (m2 k)) w) (heard2 k less) ∙ opened_both n (masked n (v2 k) (m2 k)) (masked n (v1 k) (m1 k))

  -- a box's shares of the products
  abbrev pair_of : ℕ → (ℕ → ℕ) → ℕ → ℕ → ℕ → ℕ
  pair_of box word i j k = product_share n box (opens i) (opens j) (word i) (word j) (word k)

  abbrev all_of : ℕ → (ℕ → ℕ) → ℕ
  all_of box word = threefold_share n box (opens 0) (opens 1) (opens 2) (word 0) (word 1) (word 2) (word 3) (word 4) (word 5) (word 6)

  most : (x : ℕ) → x % modulus n ≤ modulus n
  most x = le_of_lt (mod_below n l x)

  pub answer_from_total : (h u z : ℕ)
      → Cong (modulus n) (v1 0 + v2 0) h → Cong (modulus n) (v1 1 + v2 1) u → Cong (modulus n) (v1 2 + v2 2) z
      → Cong (modulus n)
      (answer_from n side v1 (section n 2 t1) incoming1 + answer_from n (other side) v2 (section n 2 t2) incoming2)
      (five_rounds n h u z)
  unfolding answer_from five_rounds
  answer_from_total h u z hh hu hz =
      let s = own_side m in
      let dealt = dealt_last m in
      rw (
        first_opens 0 (omega arith),
        first_opens 1 (omega arith),
        first_opens 2 (omega arith),
        second_opens 0 (omega arith),
        second_opens 1 (omega arith),
        second_opens 2 (omega arith),
      )
      (difference_total n l _ _ _ _ (1 + h * u + h * z + u * z) (u + z + 2 * (h * u * z)) (most _) (most _)
      (cong_add cong_mod cong_mod
      ⊙ cong_eq
      {b = (constant_share side 1 + constant_share (other side) 1) + (pair_of side m1 0 1 3 + pair_of (other side) m2 0 1 3)
      + (pair_of side m1 0 2 4 + pair_of (other side) m2 0 2 4)
      + (pair_of side m1 1 2 5 + pair_of (other side) m2 1 2 5)} (omega arith)
      ⊙ cong_add
      (cong_add
      (cong_add (cong_eq (constant_total side 1 s)) (product_total side s dealt.ab (v1 0) (v2 0) (v1 1) (v2 1) ⊙ cong_mul hh hu))
      (product_total side s dealt.ac (v1 0) (v2 0) (v1 2) (v2 2) ⊙ cong_mul hh hz))
      (product_total side s dealt.bc (v1 1) (v2 1) (v1 2) (v2 2) ⊙ cong_mul hu hz))
      (cong_add cong_mod cong_mod
      ⊙ cong_eq {b = (v1 1 + v2 1) + (v1 2 + v2 2) + 2 * (all_of side m1 + all_of (other side) m2)} (omega arith)
      ⊙ cong_add (cong_add hu hz)
      (cong_double (threefold_total side s dealt (v1 0) (v2 0) (v1 1) (v2 1) (v1 2) (v2 2) ⊙ cong_mul (cong_mul hh hu) hz))))
