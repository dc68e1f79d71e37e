-- Round 1 to 3: the two shares of A add up to 1 + the number of equal bits of the two codes, those of P(A) to whether the codes are
-- equal, and those of the wrap to whether the pair wraps.
use Prim.Native.Nat.{ℕ, zero, suc, ◌+◌, ◌*◌, ◌/◌, ◌%◌, ◌<◌, ◌≤◌}
use mathlib.Core.Path.{◌≡◌, refl, sym, ap, ◌∙◌}
use mathlib.Core.Bool.{true}
use mathlib.Core.List.{List}
use mathlib.Core.Logic.{◌⊎◌, inl, inr}
use native.Mathlib.Omega.{arith}
use lib.Arith.{digits_div, digits_mod}
use lib.Dec.{eqb}
use lib.ListN.{get_or}
use Rattle.lists.specs.Tabulate.{sum}
use Rattle.lists.proofs.Sums.{sum_add}
use Rattle.field.proofs.Subtraction.{minus_total}
use Rattle.field.specs.Width.{modulus, listed}
use Rattle.field.specs.Congruence.{Cong}
use Rattle.field.proofs.Widths.{bounds}
use Rattle.field.proofs.Congruences.{cong_refl, cong_eq, cong_sym, ◌⊙◌, cong_mod, cong_add, cong_mul, cong_double, cong_cancel}
use Rattle.field.proofs.Sums.{cong_sum}
use Rattle.shares.specs.Side.{other}
use Rattle.shares.specs.Share.{constant_share}
use Rattle.shares.proofs.Sides.{constant_total}
use Rattle.tape.specs.Layout.{section, square_count, group_count}
use Rattle.tape.specs.Dealt.{Matched}
use Rattle.tape.proofs.Letters.{square_index}
use Rattle.tape.proofs.Dealing.{own_side, own_readable}
use Rattle.encoding.specs.Codes.{bit_of, level_code}
use Rattle.encoding.specs.Matching.{indicator, same_bits}
use Rattle.protocol.specs.Tests.{complement}
use Rattle.protocol.specs.Squares.{code_difference, bit_difference, square_opening, square_closing, match_count}
use Rattle.protocol.proofs.Closings.{square_closed_total}

pub bit_cases : (u : ℕ) → u ≤ 1 → (u ≡ 0) ⊎ (u ≡ 1)
bit_cases zero l = inl refl
bit_cases (suc zero) l = inr refl
bit_cases (suc (suc u)) l = absurd (omega arith)

-- ---- the square of a bit difference is 1 for equal bits

module _ (n : ℕ) (l : listed n ≡ true) where
  from_sum : (d k e : ℕ) → Cong (modulus n) (d + k) (e + k) → Cong (modulus n) d e
  from_sum d k e h = cong_cancel k (omega (arith, bounds l)) h

  -- both bits 1: the difference is −1
  both_ones : (d : ℕ) → Cong (modulus n) (d + (1 + 1)) 1 → Cong (modulus n) (d * d) 1
  both_ones d h =
      let less : Cong (modulus n) (d + 1) 0 = from_sum (d + 1) 1 0 (cong_eq {b = d + (1 + 1)} (omega arith) ⊙ h) in
      from_sum (d * d) (2 * (d + 1)) 1
      (cong_eq {b = (d + 1) * (d + 1) + 1} (omega arith)
      ⊙ cong_add (cong_mul less less) cong_refl
      ⊙ cong_eq {b = 1 + 2 * 0} (omega arith)
      ⊙ cong_add cong_refl (cong_sym (cong_double less)))

  unlike : (d : ℕ) → Cong (modulus n) (d + 1) 1 → Cong (modulus n) (d * d) 0
  unlike d h =
      let none : Cong (modulus n) d 0 = from_sum d 1 0 h in
      cong_mul none none

  by_bits : (d u v : ℕ) → Cong (modulus n) (d + (u + v)) 1 → (u ≡ 0) ⊎ (u ≡ 1) → (v ≡ 0) ⊎ (v ≡ 1)
      → Cong (modulus n) (d * d) (indicator (eqb u v))
  by_bits d u v h (inl u0) (inl v0) =
      let one : Cong (modulus n) d 1 = cong_eq {b = d + (u + v)} (omega arith) ⊙ h in
      rw (u0, v0) (cong_mul one one)
  by_bits d u v h (inl u0) (inr v1) = rw (u0, v1) (unlike d (cong_eq {b = d + (u + v)} (omega arith) ⊙ h))
  by_bits d u v h (inr u1) (inl v0) = rw (u1, v0) (unlike d (cong_eq {b = d + (u + v)} (omega arith) ⊙ h))
  by_bits d u v h (inr u1) (inr v1) = rw (u1, v1) (both_ones d (cong_eq {b = d + (u + v)} (omega arith) ⊙ h))

  difference_square : (d u v : ℕ) → Cong (modulus n) (d + (u + v)) 1 → u ≤ 1 → v ≤ 1 → Cong (modulus n) (d * d) (indicator (eqb u v))
  difference_square d u v h lu lv = by_bits d u v h (bit_cases u lu) (bit_cases v lv)

-- the share that square g · n + k opens, by the code of its group
pub group_difference : (n side : ℕ) (d : ℕ → ℕ) (g k : ℕ) → k < n
    → bit_difference n side d (g * n + k) ≡ code_difference n side (level_code n side (d (g / n)) (g % n)) k
unfolding bit_difference
group_difference n side d g k less = rw (digits_div g less, digits_mod g less)

module _ {n pair number side : ℕ} {t1 t2 : List ℕ} (m : Matched n pair number side t1 t2) where
  -- ---- A

  -- one bit of a group
  bit_total : (g k c1 c2 : ℕ) → g < group_count n → k < n → (incoming1 incoming2 : List ℕ)
      → get_or incoming1 (g * n + k) 0 ≡ square_opening n (code_difference n (other side) c2 k) (section n 0 t2) (g * n + k)
      → get_or incoming2 (g * n + k) 0 ≡ square_opening n (code_difference n side c1 k) (section n 0 t1) (g * n + k)
      → Cong (modulus n)
      (square_closing n side (code_difference n side c1 k) (section n 0 t1) incoming1 (g * n + k)
      + square_closing n (other side) (code_difference n (other side) c2 k) (section n 0 t2) incoming2 (g * n + k))
      (indicator (eqb (bit_of c1 k) (bit_of c2 k)))
  unfolding complement
  bit_total g k c1 c2 lg lk incoming1 incoming2 h1 h2 =
      let l = (own_readable m).width in
      let u = bit_of c1 k in
      let v = bit_of c2 k in
      let lu : u ≤ 1 = omega arith in
      let lv : v ≤ 1 = omega arith in
      square_closed_total m (g * n + k) (square_index n g k lg lk) (code_difference n side c1 k) (code_difference n (other side) c2 k) incoming1 incoming2 h1 h2
      ⊙ difference_square n l (code_difference n side c1 k + code_difference n (other side) c2 k) u v
      (minus_total n (constant_share side 1) (constant_share (other side) 1) u v (omega (arith, bounds l)) (omega (arith, bounds l))
      ⊙ cong_eq (constant_total side 1 (own_side m)))
      lu lv

  pub count_total : (d1 d2 : ℕ → ℕ) (g : ℕ) → g < group_count n → (incoming1 incoming2 : List ℕ)
      → ((j : ℕ) → j < square_count n → get_or incoming1 j 0 ≡ square_opening n (bit_difference n (other side) d2 j) (section n 0 t2) j)
      → ((j : ℕ) → j < square_count n → get_or incoming2 j 0 ≡ square_opening n (bit_difference n side d1 j) (section n 0 t1) j)
      → Cong (modulus n)
      (match_count n side d1 (section n 0 t1) incoming1 g + match_count n (other side) d2 (section n 0 t2) incoming2 g)
      (1 + same_bits n (level_code n side (d1 (g / n)) (g % n)) (level_code n (other side) (d2 (g / n)) (g % n)))
  unfolding match_count same_bits
  count_total d1 d2 g lg incoming1 incoming2 h1 h2 =
      let c1 = level_code n side (d1 (g / n)) (g % n) in
      let c2 = level_code n (other side) (d2 (g / n)) (g % n) in
      let f1 : ℕ → ℕ = λ k. square_closing n side (bit_difference n side d1 (g * n + k)) (section n 0 t1) incoming1 (g * n + k) in
      let f2 : ℕ → ℕ = λ k. square_closing n (other side) (bit_difference n (other side) d2 (g * n + k)) (section n 0 t2) incoming2 (g * n + k) in
      let each : (k : ℕ) → k < n → Cong (modulus n) (f1 k + f2 k) (indicator (eqb (bit_of c1 k) (bit_of c2 k))) =
      λ k lk.
      let e1 = group_difference n side d1 g k lk in
      let e2 = group_difference n (other side) d2 g k lk in
      rw (e1, e2)
      (bit_total g k c1 c2 lg lk incoming1 incoming2
      (h1 (g * n + k) (square_index n g k lg lk) ∙ ap (λ (v : ℕ). square_opening n v (section n 0 t2) (g * n + k)) e2)
      (h2 (g * n + k) (square_index n g k lg lk) ∙ ap (λ (v : ℕ). square_opening n v (section n 0 t1) (g * n + k)) e1)) in
      cong_add cong_mod cong_mod
      ⊙ cong_eq {b = (constant_share side 1 + constant_share (other side) 1) + (sum n f1 + sum n f2)} (omega arith)
      ⊙ cong_add (cong_eq (constant_total side 1 (own_side m))) (cong_eq (sym (sum_add n f1 f2)) ⊙ cong_sum n _ _ each)
