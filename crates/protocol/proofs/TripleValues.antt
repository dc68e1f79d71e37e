-- Which value each triple's masks hide: the levels' first, then the six products behind them.
use Prim.Native.Nat.{ℕ, ◌+◌, ◌-◌, ◌<◌, ◌≤◌}
use mathlib.Core.Path.{◌≡◌}
use mathlib.Core.List.{List}
use native.Mathlib.Omega.{arith}
use borrow.Author.Tests.{lt-ltb, le-ltb}
use lib.ListN.{get_or}
use Rattle.tape.specs.Layout.{group_count}
use Rattle.protocol.specs.Products.{low_triple}
use Rattle.protocol.specs.Change.{Shares, count_of, by_triple, left_values, left_value, right_values, right_value}

level_place : (n : ℕ) (level : ℕ → ℕ) (rest : List ℕ) (i : ℕ) → i < group_count n → by_triple n level rest i ≡ level i
level_place n level rest i less = rw (lt-ltb i (low_triple n) less)

later_place : (n : ℕ) (level : ℕ → ℕ) (rest : List ℕ) (i k : ℕ) → i ≡ low_triple n + k → by_triple n level rest i ≡ get_or rest k 0
later_place n level rest i k e =
    let place : i - low_triple n ≡ k = omega arith in
    let late : low_triple n ≤ i = omega arith in
    rw (le-ltb i (low_triple n) late, place)

module _ (s : Shares) where
  pub left_level : (g : ℕ) → g < group_count s.n → left_value s g ≡ count_of s g
  unfolding left_value
  left_level g less = level_place s.n (count_of s) (left_values s) g less

  pub left_later : (i k : ℕ) → i ≡ low_triple s.n + k → left_value s i ≡ get_or (left_values s) k 0
  unfolding left_value
  left_later i k e = later_place s.n (count_of s) (left_values s) i k e

  pub right_level : (f : ℕ → ℕ) (g : ℕ) → g < group_count s.n → right_value s f g ≡ f g
  unfolding right_value
  right_level f g less = level_place s.n f (right_values s) g less

  pub right_later : (f : ℕ → ℕ) (i k : ℕ) → i ≡ low_triple s.n + k → right_value s f i ≡ get_or (right_values s) k 0
  unfolding right_value
  right_later f i k e = later_place s.n f (right_values s) i k e
