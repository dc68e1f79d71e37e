-- Remainders modulo 2^n − 1 without a division.
use Rattle.std.proofs.Common.{◌≡◌, ℕ, zero, suc, ◌+◌, ◌-◌, ◌*◌, ◌/◌, ◌%◌, ◌^◌, ◌<◌, ◌≤◌, sym, refl, ap, ◌∙◌, mul-le-mul_right, mod-lt, mod-eq_of_lt, div-lt_iff_lt-mul, mul-le-mul_left, div-mul-le_self, arith, pow_pos}
use native.Mathlib.Nat.{add-mul-mod_self_left, mod-add-div, lt-mul-div-succ}
use Rattle.field.specs.Width.{modulus}
use Rattle.field.proofs.Widths.{Bounds}

-- what is below p and a multiple of p away from x is the remainder of x
pub remainder : {p x r : ℕ} (k : ℕ) → x ≡ r + p * k → r < p → (r ≡ x % p) × (r < p)
remainder {p} {x} {r} k e l = (sym (ap (λ (y : ℕ). y % p) e ∙ add-mul-mod_self_left r p k ∙ mod-eq_of_lt l), l)

-- a difference that wrapped has its top bit set, and p added to it wraps back
pub wrapped : {p u v d : ℕ} → p < 2 ^ 31 → v < 2 ^ 32 → d < 2 ^ 32 → u < v + p → v ≤ u + p → (d + v) % 2 ^ 32 ≡ u
    → let r = (d + d / 2 ^ 31 * p) % 2 ^ 32 in
    (r ≡ (u + p - v) % p) × (r < p)
wrapped {p} {u} {v} {d} few lv ld low high same = go (d / 2 ^ 31) refl
  where
    go : (q : ℕ) → d / 2 ^ 31 ≡ q → let r = (d + d / 2 ^ 31 * p) % 2 ^ 32 in (r ≡ (u + p - v) % p) × (r < p)
    go zero e = rw e (remainder 1 (omega arith) (omega arith))
    go (suc zero) e = rw e (remainder 0 (omega arith) (omega arith))
    go (suc (suc q)) e = absurd (omega (arith, e))

-- the quotient of a word by p, from that of 2^32: at most one too small
pub record Quotient (p w q : ℕ) : Type 0 where
  pub most : q * p ≤ w
  pub near : w < q * p + 2 * p

pub quotient : {p w : ℕ} → 0 < p → w < 2 ^ 32 → Quotient p w (w * (2 ^ 32 / p) / 2 ^ 32)
quotient {p} {w} pos few =
    let c = 2 ^ 32 / p in
    let q = w * c / 2 ^ 32 in
    let c_most : c * p ≤ 2 ^ 32 = div-mul-le_self (2 ^ 32) p in
    let c_near : 2 ^ 32 < p * (c + 1) = lt-mul-div-succ (2 ^ 32) pos in
    let q_most : q * 2 ^ 32 ≤ w * c = div-mul-le_self (w * c) (2 ^ 32) in
    let q_near : w * c < 2 ^ 32 * (q + 1) = lt-mul-div-succ (w * c) (pow_pos 32) in
    let c_least : 2 ^ 32 + 1 ≤ p * (c + 1) = omega arith in
    let q_least : w * c + 1 ≤ 2 ^ 32 * (q + 1) = omega arith in
    let word : w ≤ 2 ^ 32 - 1 = omega arith in
    record {
      most = omega (arith, mul-le-mul_left w c_most, mul-le-mul_right p q_most);
      near = omega (arith, mul-le-mul_left w c_least, mul-le-mul_right p q_least, mul-le-mul_right p word);
    }

module _ (n : ℕ) (b : Bounds n) where
  -- 2^n is 1 modulo p: the part above bit n may be added to the part below it
  pub fold_same : (x : ℕ) → (x % 2 ^ n + x / 2 ^ n) % modulus n ≡ x % modulus n
  fold_same x =
      let q = x / 2 ^ n in
      let wide : 2 ^ n * q ≡ (modulus n + 1) * q = ap (λ (m : ℕ). m * q) (sym b.power) in
      let same : x ≡ x % 2 ^ n + q + modulus n * q = omega (arith, mod-add-div x (2 ^ n)) in
      sym (ap (λ (y : ℕ). y % modulus n) same ∙ add-mul-mod_self_left _ (modulus n) q)

  pub below : (x : ℕ) → x % 2 ^ n ≤ modulus n
  below x = omega (arith, mod-lt x (pow_pos n))

  pub above : (x k : ℕ) → x < k * 2 ^ n → x / 2 ^ n < k
  above x k l = (div-lt_iff_lt-mul (pow_pos n)).1 l

  -- how far two folds bring a sum of four products
  pub once : (x : ℕ) → x < 4 * (modulus n * modulus n) → x % 2 ^ n + x / 2 ^ n < 5 * modulus n
  once x l =
      let p = modulus n in
      let wide : 4 * p * 2 ^ n ≡ 4 * p * (p + 1) = ap (λ (m : ℕ). 4 * p * m) (sym b.power) in
      omega (arith, below x, above x (4 * p) (omega arith))

  pub twice : (x : ℕ) → x < 5 * modulus n → x % 2 ^ n + x / 2 ^ n < modulus n + 5
  twice x l = omega (arith, below x, above x 5 (omega arith))
