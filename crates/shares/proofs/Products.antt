-- With a dealt square, Beaver triple or last group, the two boxes' shares add up to the square or the product. `side` is either box.
use Prim.Native.Nat.{ℕ, ◌+◌, ◌*◌, ◌%◌, ◌<◌, ◌≤◌}
use mathlib.Core.Path.{◌≡◌, sym, ap, ◌∙◌}
use mathlib.Core.Bool.{true}
use native.Mathlib.Nat.{mod-lt, add_comm}
use native.Mathlib.Omega.{arith}
use Rattle.field.specs.Width.{modulus, listed}
use Rattle.field.specs.Congruence.{Cong}
use Rattle.field.proofs.Widths.{bounds}
use Rattle.field.proofs.Subtraction.{minus_below, plus_minus}
use Rattle.field.proofs.Congruences.{cong_refl, cong_eq, ◌⊙◌, cong_mod, cong_add, cong_mul}
use Rattle.shares.specs.Side.{is_side, other}
use Rattle.shares.specs.Share.{masked, opened, square_share, product_share, threefold_share}
use Rattle.shares.proofs.Sides.{constant_total}
use Rattle.shares.proofs.Reading.{opened_sum}

pub product_share_below : (n side e f a b c : ℕ) → listed n ≡ true → product_share n side e f a b c < modulus n
unfolding product_share
product_share_below n side e f a b c l = mod-lt _ (omega (arith, bounds l))

-- ---- opening

-- a box never sends p
pub masked_below : (n v a : ℕ) → listed n ≡ true → masked n v a < modulus n
masked_below n v a l = minus_below n v a l

-- both boxes open the same value
pub opened_both : (n s h : ℕ) → opened n s h ≡ opened n h s
opened_both n s h = opened_sum n s h ∙ ap (λ (x : ℕ). x % modulus n) (add_comm s h) ∙ sym (opened_sum n h s)

-- what is opened, with the two mask words, adds up to the value
pub opened_plus : (n v1 v2 a1 a2 : ℕ) → a1 ≤ modulus n → a2 ≤ modulus n
    → Cong (modulus n) (a1 + a2 + opened n (masked n v1 a1) (masked n v2 a2)) (v1 + v2)
opened_plus n v1 v2 a1 a2 l1 l2 =
    cong_eq (ap (λ (x : ℕ). a1 + a2 + x) (opened_sum n (masked n v1 a1) (masked n v2 a2)))
    ⊙ cong_add cong_refl cong_mod
    ⊙ cong_eq {b = (a1 + masked n v1 a1) + (a2 + masked n v2 a2)} (omega arith)
    ⊙ cong_add (plus_minus n v1 a1 l1) (plus_minus n v2 a2 l2)

-- ---- the shares' sum

-- the two boxes' words of a dealt square, and of a Beaver triple
pub record DealtSquare (n a1 q1 a2 q2 : ℕ) : Type 0 where
  pub first : a1 ≤ modulus n
  pub second : a2 ≤ modulus n
  pub square : Cong (modulus n) (q1 + q2) ((a1 + a2) * (a1 + a2))

pub record DealtTriple (n a1 b1 c1 a2 b2 c2 : ℕ) : Type 0 where
  pub first_left : a1 ≤ modulus n
  pub first_right : b1 ≤ modulus n
  pub second_left : a2 ≤ modulus n
  pub second_right : b2 ≤ modulus n
  pub product : Cong (modulus n) (c1 + c2) ((a1 + a2) * (b1 + b2))

-- those of three masks, of their products by two and of the product of all three
pub record DealtThreefold (n a1 b1 c1 ab1 ac1 bc1 abc1 a2 b2 c2 ab2 ac2 bc2 abc2 : ℕ) : Type 0 where
  pub ab : DealtTriple n a1 b1 ab1 a2 b2 ab2
  pub ac : DealtTriple n a1 c1 ac1 a2 c2 ac2
  pub bc : DealtTriple n b1 c1 bc1 b2 c2 bc2
  pub abc : Cong (modulus n) (abc1 + abc2) ((a1 + a2) * (b1 + b2) * (c1 + c2))

-- a product of three sums, multiplied out
spread : (a b c e f g : ℕ)
    → a * b * c + (e * (b * c) + (f * (a * c) + (g * (a * b) + (e * f * c + e * g * b + f * g * a + e * f * g))))
    ≡ (a + e) * (b + f) * (c + g)
spread a b c e f g = omega arith

module _ (side : ℕ) (s : is_side side ≡ true) where
  pub square_total : {n a1 q1 a2 q2 : ℕ} → DealtSquare n a1 q1 a2 q2 → (v1 v2 : ℕ)
      → let e = opened n (masked n v1 a1) (masked n v2 a2) in
      Cong (modulus n) (square_share n side e a1 q1 + square_share n (other side) e a2 q2) ((v1 + v2) * (v1 + v2))
  unfolding square_share
  square_total {n} {a1} {q1} {a2} {q2} dealt v1 v2 =
      let e = opened n (masked n v1 a1) (masked n v2 a2) in
      let total = opened_plus n v1 v2 a1 a2 dealt.first dealt.second in
      cong_add cong_mod cong_mod
      ⊙ cong_eq {b = (q1 + q2) + (2 * (e * (a1 + a2)) + e * e)} (omega (arith, constant_total side (e * e) s))
      ⊙ cong_add dealt.square cong_refl
      ⊙ cong_eq {b = (a1 + a2 + e) * (a1 + a2 + e)} (omega arith)
      ⊙ cong_mul total total

  pub product_total : {n a1 b1 c1 a2 b2 c2 : ℕ} → DealtTriple n a1 b1 c1 a2 b2 c2 → (v1 v2 u1 u2 : ℕ)
      → let e = opened n (masked n v1 a1) (masked n v2 a2) in
      let f = opened n (masked n u1 b1) (masked n u2 b2) in
      Cong (modulus n) (product_share n side e f a1 b1 c1 + product_share n (other side) e f a2 b2 c2) ((v1 + v2) * (u1 + u2))
  unfolding product_share
  product_total {n} {a1} {b1} {c1} {a2} {b2} {c2} dealt v1 v2 u1 u2 =
      let e = opened n (masked n v1 a1) (masked n v2 a2) in
      let f = opened n (masked n u1 b1) (masked n u2 b2) in
      cong_add cong_mod cong_mod
      ⊙ cong_eq {b = (c1 + c2) + (e * (b1 + b2) + f * (a1 + a2) + e * f)} (omega (arith, constant_total side (e * f) s))
      ⊙ cong_add dealt.product cong_refl
      ⊙ cong_eq {b = (a1 + a2 + e) * (b1 + b2 + f)} (omega arith)
      ⊙ cong_mul (opened_plus n v1 v2 a1 a2 dealt.first_left dealt.second_left)
      (opened_plus n u1 u2 b1 b2 dealt.first_right dealt.second_right)

  -- each term but the last has one dealt factor, and box 1 adds the last
  pub threefold_total : {n a1 b1 c1 ab1 ac1 bc1 abc1 a2 b2 c2 ab2 ac2 bc2 abc2 : ℕ}
      → DealtThreefold n a1 b1 c1 ab1 ac1 bc1 abc1 a2 b2 c2 ab2 ac2 bc2 abc2 → (v1 v2 u1 u2 w1 w2 : ℕ)
      → let e = opened n (masked n v1 a1) (masked n v2 a2) in
      let f = opened n (masked n u1 b1) (masked n u2 b2) in
      let g = opened n (masked n w1 c1) (masked n w2 c2) in
      Cong (modulus n)
      (threefold_share n side e f g a1 b1 c1 ab1 ac1 bc1 abc1 + threefold_share n (other side) e f g a2 b2 c2 ab2 ac2 bc2 abc2)
      ((v1 + v2) * (u1 + u2) * (w1 + w2))
  unfolding threefold_share
  threefold_total {n} {a1} {b1} {c1} {ab1} {ac1} {bc1} {abc1} {a2} {b2} {c2} {ab2} {ac2} {bc2} {abc2} dealt v1 v2 u1 u2 w1 w2 =
      let e = opened n (masked n v1 a1) (masked n v2 a2) in
      let f = opened n (masked n u1 b1) (masked n u2 b2) in
      let g = opened n (masked n w1 c1) (masked n w2 c2) in
      let a = a1 + a2 in
      let b = b1 + b2 in
      let c = c1 + c2 in
      cong_add cong_mod cong_mod
      ⊙ cong_eq
      {b = (abc1 + abc2) + (e * (bc1 + bc2) + (f * (ac1 + ac2) + (g * (ab1 + ab2) + (e * f * c + e * g * b + f * g * a + e * f * g))))}
      (omega (arith, constant_total side (e * f * g) s))
      ⊙ cong_add dealt.abc
      (cong_add (cong_mul cong_refl dealt.bc.product)
      (cong_add (cong_mul cong_refl dealt.ac.product) (cong_add (cong_mul cong_refl dealt.ab.product) cong_refl)))
      ⊙ cong_eq (spread a b c e f g)
      ⊙ cong_mul
      (cong_mul (opened_plus n v1 v2 a1 a2 dealt.ab.first_left dealt.ab.second_left)
      (opened_plus n u1 u2 b1 b2 dealt.ab.first_right dealt.ab.second_right))
      (opened_plus n w1 w2 c1 c2 dealt.ac.first_right dealt.ac.second_right)
