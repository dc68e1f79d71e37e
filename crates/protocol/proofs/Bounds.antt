-- The values that the openings hide are at most p.
use Prim.Native.Nat.{ℕ, ◌+◌, ◌-◌, ◌*◌, ◌%◌, ◌<◌, ◌≤◌}
use mathlib.Core.Path.{◌≡◌, refl}
use mathlib.Core.Bool.{Bool, true, false, cond}
use mathlib.Core.List.{List}
use native.Mathlib.Nat.{le_of_lt, le_trans}
use native.Mathlib.Omega.{arith}
use borrow.Author.Tests.{ltb-true, leb-true}
use lib.Dec.{ltb, leb}
use lib.ListN.{get_or}
use Rattle.field.specs.Width.{modulus, listed}
use Rattle.field.proofs.Widths.{bounds, each_listed}
use Rattle.shares.specs.Side.{other}
use Rattle.shares.specs.Share.{constant_share}
use Rattle.shares.proofs.Sides.{constant_below}
use Rattle.tape.specs.Layout.{group_count}
use Rattle.protocol.specs.Tests.{doubled}
use Rattle.protocol.specs.Products.{low_triple}
use Rattle.protocol.specs.Squares.{bit_difference}
use Rattle.protocol.specs.Clear.{value_of}
use Rattle.protocol.proofs.ByRound.{each_at}
use Rattle.protocol.proofs.Below.{complement_below}
use Rattle.protocol.proofs.Halves.{indicator_bit}
use Rattle.protocol.specs.Change.{Shares, square_share_of, count_of, low_of, sum_of, wraps_of, halves_of, by_triple, left_values, left_value, right_values, right_value}
use Rattle.protocol.proofs.Rules.{count_high}

module _ (s : Shares) (l : listed s.n ≡ true) where
  abbrev p : ℕ
  p = modulus s.n

  pub square_share_most : (j : ℕ) → square_share_of s j ≤ p
  unfolding bit_difference
  square_share_most j = le_of_lt (complement_below s.n l s.side _)

  by_triple_lem : (level : ℕ → ℕ) (rest : List ℕ) (i : ℕ) → (i < group_count s.n → level i ≤ p) → get_or rest (i - low_triple s.n) 0 ≤ p
      → by_triple s.n level rest i ≤ p
  by_triple_lem level rest i first later = go (ltb i (low_triple s.n)) refl
    where
      go : (t : Bool) → ltb i (low_triple s.n) ≡ t → cond t (level i) (get_or rest (i - low_triple s.n) 0) ≤ p
      go true e = first (ltb-true i (low_triple s.n) e)
      go false e = later

  one : {k : ℕ} → k ≤ 1 → k ≤ p
  one h = omega (arith, bounds l)

  low_most : (side t : ℕ) → constant_share side (low_of s t) ≤ p
  low_most side t = le_of_lt (constant_below side (omega (arith, bounds l)))

  pub half_most : (t : ℕ) → halves_of s t ≤ p
  half_most t = one (indicator_bit (ltb (2 * value_of s.n s.x s.y s.xo s.yo t) p))

  wrap_most : (t : ℕ) → wraps_of s t ≤ 1
  wrap_most t = indicator_bit (leb p (doubled s.n s.x s.y t + doubled s.n s.xo s.yo t))

  -- n + 1 is a word below p
  room : s.n + 1 ≤ p
  unfolding modulus
  room = leb-true (s.n + 1) p (each_listed (λ w. leb (w + 1) (modulus w)) refl l)

  sum_most : (t : ℕ) → sum_of s t ≤ 1
  sum_most t = omega arith

  pub left_most : (i : ℕ) → left_value s i ≤ p
  unfolding left_value
  left_most i =
      let low = low_most s.side in
      by_triple_lem (count_of s) (left_values s) i (λ less. le_trans (count_high s i) room)
      (each_at (λ (v : ℕ). v ≤ p) (left_values s) 0
      (low 0, (low 1, (low 2, (one (sum_most 0), (one (sum_most 1), (one (sum_most 2), tt))))))
      (omega arith) (i - low_triple s.n))

  pub right_most : (inverses : ℕ → ℕ) → ((g : ℕ) → g < group_count s.n → inverses g ≤ p) → (i : ℕ) → right_value s inverses i ≤ p
  unfolding right_value
  right_most inverses below i =
      let low = low_most (other s.side) in
      by_triple_lem inverses (right_values s) i (below i)
      (each_at (λ (v : ℕ). v ≤ p) (right_values s) 0
      (low 0, (low 1, (low 2, (one (wrap_most 0), (one (wrap_most 1), (one (wrap_most 2), tt))))))
      (omega arith) (i - low_triple s.n))

-- what stands on the tape for A · w may be written in another way
by_triple_same : (n : ℕ) (f h : ℕ → ℕ) (rest : List ℕ) (i : ℕ) → ((g : ℕ) → g < group_count n → f g ≡ h g) → by_triple n f rest i ≡ by_triple n h rest i
by_triple_same n f h rest i same = go (ltb i (low_triple n)) refl
  where
    go : (t : Bool) → ltb i (low_triple n) ≡ t → cond t (f i) (get_or rest (i - low_triple n) 0) ≡ cond t (h i) (get_or rest (i - low_triple n) 0)
    go true e = same i (ltb-true i (low_triple n) e)
    go false e = refl

pub right_same : (s : Shares) (f h : ℕ → ℕ) → ((g : ℕ) → g < group_count s.n → f g ≡ h g) → (i : ℕ) → right_value s f i ≡ right_value s h i
unfolding right_value
right_same s f h same i = by_triple_same s.n f h (right_values s) i same
