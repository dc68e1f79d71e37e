-- Rounds 2 and 3: from d = A · w to the share of P(A), and over the levels to the wrap of the pair.
use Prim.Native.Nat.{ℕ, zero, suc, ◌+◌, ◌*◌, ◌^◌, ◌<◌, ◌≤◌}
use mathlib.Core.Path.{◌≡◌, refl, sym, ap, ◌∙◌}
use mathlib.Core.Bool.{Bool, true, false}
use mathlib.Core.List.{List}
use native.Mathlib.Nat.{add_comm, pow-zero, pow-suc}
use native.Mathlib.Numerals.{add-one}
use native.Mathlib.Omega.{arith}
use borrow.Author.Tests.{eqb-true, eqb-false, eq-eqb, ne_eqb}
use lib.Dec.{eqb, leb}
use Rattle.lists.specs.Tabulate.{sum}
use Rattle.lists.proofs.Sums.{sum_same, sum_add, sum_first}
use Rattle.field.specs.Width.{modulus}
use Rattle.field.specs.Congruence.{Cong}
use Rattle.field.proofs.Congruences.{cong_refl, cong_eq, ◌⊙◌, cong_mod, cong_add, cong_mul, cong_pow}
use Rattle.field.proofs.Sums.{cong_sum}
use Rattle.shares.specs.Side.{is_side, other}
use Rattle.shares.specs.Share.{constant_share}
use Rattle.shares.proofs.Sides.{constant_total, each_side}
use Rattle.tape.specs.Layout.{section, group_count}
use Rattle.tape.specs.Letters.{group_inverse, group_power}
use Rattle.tape.specs.Dealt.{Matched}
use Rattle.tape.proofs.Dealing.{own_side, dealt_inverse, dealt_power}
use Rattle.encoding.specs.Codes.{level_code}
use Rattle.encoding.specs.Matching.{indicator}
use Rattle.encoding.specs.Polynomial.{coefficient, polynomial}
use Rattle.encoding.proofs.EqualCodes.{wrap_levels}
use Rattle.protocol.specs.Levels.{level_match}

pub pow_times : (a b k : ℕ) → (a * b) ^ k ≡ a ^ k * b ^ k
pow_times a b zero = rw (pow-zero (a * b), pow-zero a, pow-zero b)
pow_times a b (suc k) = rw (pow-suc (a * b) k, pow-suc a k, pow-suc b k, pow_times a b k) (omega arith)

-- P(t), its first term apart
polynomial_first : (n t : ℕ) → polynomial n t ≡ coefficient n 0 + sum n (λ k. coefficient n (k + 1) * t ^ (k + 1))
unfolding polynomial
polynomial_first n t =
    rw (add-one n)
    (sum_first n (λ k. coefficient n k * t ^ k)
    ∙ rw (pow-zero t, sum_same n (λ i. coefficient n (suc i) * t ^ suc i) (λ k. coefficient n (k + 1) * t ^ (k + 1)) (λ i l. rw (add-one i))) (omega arith))

-- the totals of power group g: w and r
abbrev pub inverse_total : ℕ → List ℕ → List ℕ → ℕ → ℕ
inverse_total n t1 t2 g = group_inverse n (section n 1 t1) g + group_inverse n (section n 1 t2) g

abbrev pub mask_total : ℕ → List ℕ → List ℕ → ℕ → ℕ
mask_total n t1 t2 g = group_power n (section n 1 t1) g 1 + group_power n (section n 1 t2) g 1

module _ {n pair number side : ℕ} {t1 t2 : List ℕ} (m : Matched n pair number side t1 t2) where
  -- d^k · r^k is A^k
  unmasked : (g k d A : ℕ) → g < group_count n → 1 ≤ k → k ≤ n → Cong (modulus n) d (A * inverse_total n t1 t2 g)
      → Cong (modulus n) (d ^ k * (group_power n (section n 1 t1) g k + group_power n (section n 1 t2) g k)) (A ^ k)
  unmasked g k d A lg low high hd =
      cong_mul (cong_pow k hd) (dealt_power m g k lg low high)
      ⊙ cong_eq (sym (pow_times (A * inverse_total n t1 t2 g) (mask_total n t1 t2 g) k))
      ⊙ cong_pow k
      (cong_eq {b = A * (inverse_total n t1 t2 g * mask_total n t1 t2 g)} (omega arith)
      ⊙ cong_mul cong_refl (dealt_inverse m g lg)
      ⊙ cong_eq (omega arith))

  pub level_total : (g d A : ℕ) → g < group_count n → Cong (modulus n) d (A * inverse_total n t1 t2 g)
      → Cong (modulus n) (level_match n side d (section n 1 t1) g + level_match n (other side) d (section n 1 t2) g) (polynomial n A)
  unfolding level_match
  level_total g d A lg hd =
      let f : List ℕ → ℕ → ℕ = λ t k. coefficient n (k + 1) * (d ^ (k + 1) * group_power n (section n 1 t) g (k + 1)) in
      let c = coefficient n 0 in
      cong_add cong_mod cong_mod
      ⊙ cong_eq {b = (constant_share side c + constant_share (other side) c) + (sum n (f t1) + sum n (f t2))} (omega arith)
      ⊙ cong_add (cong_eq (constant_total side c (own_side m)))
      (cong_eq (sym (sum_add n (f t1) (f t2)))
      ⊙ cong_sum n (λ k. f t1 k + f t2 k) (λ k. coefficient n (k + 1) * A ^ (k + 1))
      (λ k l.
      cong_eq {b = coefficient n (k + 1)
      * (d ^ (k + 1) * (group_power n (section n 1 t1) g (k + 1) + group_power n (section n 1 t2) g (k + 1)))} (omega arith)
      ⊙ cong_mul cong_refl (unmasked g (k + 1) d A lg (omega arith) (omega arith) hd)))
      ⊙ cong_eq (sym (polynomial_first n A))

-- ---- the levels of a test

eqb_both : (a b : ℕ) → eqb a b ≡ eqb b a
eqb_both a b = go (eqb a b) refl
  where
    go : (t : Bool) → eqb a b ≡ t → t ≡ eqb b a
    go true e = sym (eq-eqb b a (sym (eqb-true a b e)))
    go false e = sym (ne_eqb b a (λ q. eqb-false a b e (sym q)))

-- the number of levels with equal codes says whether the pair wraps, whichever box is named first
pub codes_wrap : (n side v1 v2 : ℕ) → is_side side ≡ true → v1 < modulus n → v2 < modulus n
    → sum n (λ i. indicator (eqb (level_code n side v1 i) (level_code n (other side) v2 i))) ≡ indicator (leb (modulus n) (v1 + v2))
unfolding other
codes_wrap n side v1 v2 s l1 l2 =
    each_side
    (λ s. sum n (λ i. indicator (eqb (level_code n s v1 i) (level_code n (other s) v2 i))) ≡ indicator (leb (modulus n) (v1 + v2)))
    (wrap_levels n v1 v2 l1 l2)
    (sum_same n (λ i. indicator (eqb (level_code n 2 v1 i) (level_code n 1 v2 i)))
    (λ i. indicator (eqb (level_code n 1 v2 i) (level_code n 2 v1 i)))
    (λ i l. ap indicator (eqb_both (level_code n 2 v1 i) (level_code n 1 v2 i)))
    ∙ wrap_levels n v2 v1 l2 l1
    ∙ ap (λ (x : ℕ). indicator (leb (modulus n) x)) (add_comm v2 v1))
    side s
