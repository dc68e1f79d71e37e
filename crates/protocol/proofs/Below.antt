-- Every share that a box stores or sends is below p.
use Prim.Native.Nat.{ℕ, ◌%◌, ◌<◌}
use mathlib.Core.Path.{◌≡◌}
use mathlib.Core.Bool.{true}
use mathlib.Core.List.{List}
use native.Mathlib.Nat.{mod-lt}
use native.Mathlib.Omega.{arith}
use Rattle.field.proofs.Subtraction.{minus_below}
use Rattle.field.specs.Width.{modulus, listed}
use Rattle.field.proofs.Widths.{bounds}
use Rattle.shares.proofs.Products.{product_share_below}
use Rattle.protocol.specs.Tests.{complement, exclusive}
use Rattle.protocol.specs.Products.{Party, Products, closed, closing}
use Rattle.protocol.specs.Squares.{match_count}
use Rattle.protocol.specs.Levels.{wrap_share}
use Rattle.protocol.specs.Answer.{answer_from}
use Rattle.protocol.specs.Rounds.{low_sum, half_share, answer_share}

module _ (n : ℕ) (l : listed n ≡ true) where
  pub mod_below : (x : ℕ) → x % modulus n < modulus n
  mod_below x = mod-lt x (omega (arith, bounds l))

  pub count_below : (side : ℕ) (d : ℕ → ℕ) (squares incoming : List ℕ) (g : ℕ) → match_count n side d squares incoming g < modulus n
  unfolding match_count
  count_below side d squares incoming g = mod_below _

  pub closed_below : (side v u : ℕ) (triples : List ℕ) (i : ℕ) (incoming : List ℕ) (at : ℕ) → closed n side v u triples i incoming at < modulus n
  unfolding closed
  closed_below side v u triples i incoming at = product_share_below n side _ _ _ _ _ l

  pub exclusive_below : (total product : ℕ) → exclusive n total product < modulus n
  unfolding exclusive
  exclusive_below total product = minus_below n _ _ l

  pub complement_below : (side v : ℕ) → complement n side v < modulus n
  unfolding complement
  complement_below side v = minus_below n _ _ l

  pub wrap_below : (side : ℕ) (powers work incoming : List ℕ) (test : ℕ) → wrap_share n side powers work incoming test < modulus n
  unfolding wrap_share
  wrap_below side powers work incoming test = mod_below _

module _ (q : Party) (l : listed q.n ≡ true) where
  pub closing_below : (ps : Products) (incoming : List ℕ) (from i : ℕ) → closing q ps incoming from i < modulus q.n
  unfolding closing
  closing_below ps incoming from i = closed_below q.n l _ _ _ _ _ _ _

  pub sum_below : (incoming : List ℕ) (test : ℕ) → low_sum q incoming test < modulus q.n
  unfolding low_sum
  sum_below incoming test = exclusive_below q.n l _ _

  pub half_below : (work incoming : List ℕ) (test : ℕ) → half_share q work incoming test < modulus q.n
  unfolding half_share
  half_below work incoming test = complement_below q.n l _ _

  pub answer_below : (work incoming : List ℕ) → answer_share q work incoming < modulus q.n
  unfolding answer_share answer_from
  answer_below work incoming = minus_below q.n _ _ l
