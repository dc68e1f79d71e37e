-- The words of a group are below p; those of both boxes add up to what was drawn or to the group's totals; the totals meet the equations.
use Prim.Native.Nat.{ℕ, zero, suc, ◌+◌, ◌-◌, ◌*◌, ◌%◌, ◌^◌, ◌<◌, ◌≤◌}
use mathlib.Core.Path.{◌≡◌, refl, ◌∙◌}
use mathlib.Core.Bool.{Bool, true, false, cond}
use native.Mathlib.Nat.{le_of_lt, mod-lt, mod_self, mod-eq_of_lt, sub-zero, pow-zero, pow-suc, one-mul}
use native.Mathlib.Omega.{arith}
use borrow.Author.Tests.{lt-ltb, le-ltb}
use lib.Dec.{eqb, ltb}
use lib.Pow.{pow-add}
use Rattle.field.specs.Width.{listed, modulus}
use Rattle.field.specs.Congruence.{Cong}
use Rattle.field.proofs.Widths.{bounds}
use Rattle.field.proofs.Congruences.{cong_refl, cong_eq, ◌⊙◌, cong_mod, cong_multiple}
use Rattle.field.proofs.Subtraction.{minus_below, plus_minus}
use Rattle.draws.specs.Draws.{draw, word}
use Rattle.deals.specs.Groups.{free_words, first_word, free_word, drawn_sum, exponent, total, group_word}
use Rattle.deals.specs.Deals.{kind_word}

either_below : (t : Bool) {a b p : ℕ} → a < p → b < p → cond t a b < p
either_below true la lb = la
either_below false la lb = lb

module _ (n : ℕ) (width : listed n ≡ true) where
  word_below : (v k : ℕ) → word n v k < modulus n
  word_below v k = mod-lt (draw v k) (omega (arith, bounds width))

  group_below : (side kind v j : ℕ) → group_word n side kind v j < modulus n
  unfolding group_word
  group_below side kind v j =
      let first : first_word n kind v j < modulus n = word_below v _ in
      let free : free_word n kind v j < modulus n = word_below v _ in
      either_below (eqb side 1) first
      (either_below (ltb j (free_words kind)) free
      (minus_below n (total n kind v j % modulus n) (first_word n kind v j) width))

  pub kind_below : (side kind v i : ℕ) → kind_word n side kind v i < modulus n
  unfolding kind_word
  kind_below side kind v i = group_below side kind _ _

  -- ---- both boxes' words

  -- where box 2's is drawn
  pub both_drawn : (kind v j : ℕ) → j < free_words kind → group_word n 1 kind v j + group_word n 2 kind v j ≡ drawn_sum n kind v j
  unfolding group_word
  both_drawn kind v j l = rw (lt-ltb j (free_words kind) l)

  -- where it is what the equation leaves
  pub both_left : (kind v j : ℕ) → free_words kind ≤ j → Cong (modulus n) (group_word n 1 kind v j + group_word n 2 kind v j) (total n kind v j)
  unfolding group_word
  both_left kind v j l =
      rw (le-ltb j (free_words kind) l)
      (plus_minus n (total n kind v j % modulus n) (first_word n kind v j) (le_of_lt (word_below v _)) ⊙ cong_mod)

  -- ---- a power group's totals: w, then the powers of r = 2^k

  pub root_total : (v : ℕ) → total n 1 v 1 ≡ 2 ^ exponent n v
  unfolding total
  root_total v = pow-suc (2 ^ exponent n v) 0 ∙ simp (pow-zero, one-mul)

  pub power_total : (v j : ℕ) → 1 ≤ j → total n 1 v j ≡ (2 ^ exponent n v) ^ j
  unfolding total
  power_total v zero l = absurd (omega (arith, l))
  power_total v (suc j) l = refl

  -- since p = 2^n − 1
  full_turn : Cong (modulus n) (2 ^ n) 1
  full_turn = cong_eq {b = 1 + modulus n * 1} (omega (arith, bounds width)) ⊙ cong_multiple 1

  inverse_powers : (k : ℕ) → k < n → Cong (modulus n) (2 ^ ((n - k) % n) * 2 ^ k) 1
  inverse_powers zero l = rw (sub-zero n, mod_self n) cong_refl
  inverse_powers (suc k) l =
      let less : n - suc k < n = omega arith in
      let back : n - suc k + suc k ≡ n = omega arith in
      rw (mod-eq_of_lt less, ← pow-add 2 (n - suc k) (suc k), back) full_turn

  pub inverse_total_lem : (v : ℕ) → Cong (modulus n) (total n 1 v 0 * 2 ^ exponent n v) 1
  unfolding total
  inverse_total_lem v = inverse_powers (exponent n v) (mod-lt (draw v 1) (omega (arith, bounds width)))
