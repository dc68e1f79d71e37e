-- One level has equal codes if X < v, and none otherwise; and a pair of shares wraps just when X < v, for X = p − 1 − v1.
use Prim.Native.Nat.{ℕ, zero, suc, ◌+◌, ◌/◌, ◌%◌, ◌^◌, ◌<◌}
use mathlib.Core.Path.{◌≡◌, refl, sym, ◌∙◌}
use mathlib.Core.Bool.{Bool, true, false, cond}
use native.Mathlib.Nat.{div-one}
use native.Mathlib.Omega.{arith}
use borrow.Author.Tests.{ltb-true, leb-true, eqb-true, eqb-false, lt-ltb, le-ltb, le-leb, ne_eqb}
use lib.Dec.{eqb, ltb, leb}
use Rattle.lists.proofs.Sums.{sum_first}
use Rattle.field.specs.Width.{modulus}
use Rattle.encoding.specs.Codes.{bit_of, range_code, point_code, wrap_bound}
use Rattle.encoding.specs.Matching.{indicator, matching_levels}
use Rattle.encoding.proofs.Halves.{shifted, half_below}
use Rattle.encoding.proofs.Counts.{count}

same_truth : (s t : Bool) → (s ≡ true → t ≡ true) → (t ≡ true → s ≡ true) → s ≡ t
same_truth true t to from = sym (to refl)
same_truth false true to from = from refl
same_truth false false to from = refl

same_less : (a b c d : ℕ) → (a < b → c < d) → (c < d → a < b) → ltb a b ≡ ltb c d
same_less a b c d to from =
    same_truth (ltb a b) (ltb c d) (λ e. lt-ltb c d (to (ltb-true a b e))) (λ e. lt-ltb a b (from (ltb-true c d e)))

-- ---- the levels, with any filler above v

-- whether the codes at a level are equal
abbrev equal_at : ℕ → ℕ → ℕ → ℕ → Bool
equal_at filler X v i = eqb (cond (eqb (bit_of X i) 0) (X / 2 ^ i + 1) filler) (v / 2 ^ i)

-- level 0 of an even X: v comes right after X, or the halves tell
even : (X v : ℕ) → X % 2 ≡ 0 → (t : Bool) → eqb (X + 1) v ≡ t → indicator t + indicator (ltb (X / 2) (v / 2)) ≡ indicator (ltb X v)
even X v h true e =
    let next = eqb-true (X + 1) v e in
    rw (le-ltb (X / 2) (v / 2) (omega arith), lt-ltb X v (omega arith)) refl
even X v h false e =
    let other = eqb-false (X + 1) v e in
    rw (same_less (X / 2) (v / 2) X v (λ l. omega arith) (λ l. omega arith)) (omega arith)

-- level 0, and the levels of the halves. An odd X has the filler, and its half tells
first_level : (filler X v : ℕ) → v < filler → (t : Bool) → eqb (X % 2) 0 ≡ t
    → indicator (eqb (cond t (X + 1) filler) v) + indicator (ltb (X / 2) (v / 2)) ≡ indicator (ltb X v)
first_level filler X v above true e = even X v (eqb-true (X % 2) 0 e) (eqb (X + 1) v) refl
first_level filler X v above false e =
    let odd = eqb-false (X % 2) 0 e in
    rw (ne_eqb filler v (λ h. omega arith), same_less (X / 2) (v / 2) X v (λ l. omega arith) (λ l. omega arith)) (omega arith)

equal_levels : (k filler X v : ℕ) → X < 2 ^ k → v < 2 ^ k → v < filler → count k (equal_at filler X v) ≡ indicator (ltb X v)
equal_levels zero filler X v h_x hv above = rw (le-ltb X v (omega arith))
equal_levels (suc k) filler X v h_x hv above =
    sum_first k (λ i. indicator (equal_at filler X v i))
    ∙ simp (div-one, shifted, equal_levels k filler (X / 2) (v / 2) (half_below k h_x) (half_below k hv) (omega arith))
    (first_level filler X v above (eqb (X % 2) 0) refl)

-- ---- document 01's levels: the filler p is above every v

pub matching : (n X v : ℕ) → X < modulus n → v < modulus n → matching_levels n X v ≡ indicator (ltb X v)
unfolding matching_levels range_code point_code modulus
matching n X v h_x hv = equal_levels n _ X v (omega arith) (omega arith) (omega arith)

-- ---- the wrap

pub wrap_less : (n v1 v2 : ℕ) → v1 < modulus n → leb (modulus n) (v1 + v2) ≡ ltb (wrap_bound n v1) v2
wrap_less n v1 v2 h =
    same_truth (leb (modulus n) (v1 + v2)) (ltb (wrap_bound n v1) v2)
    (λ e. lt-ltb (wrap_bound n v1) v2 (omega (arith, leb-true (modulus n) (v1 + v2) e)))
    (λ e. le-leb (modulus n) (v1 + v2) (omega (arith, ltb-true (wrap_bound n v1) v2 e)))
