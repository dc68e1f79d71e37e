-- The words that open products stand by turns: e of each product, then f.
use Prim.Native.Nat.{ℕ, ◌+◌, ◌*◌, ◌/◌, ◌%◌}
use mathlib.Core.Path.{◌≡◌}
use mathlib.Core.List.{List}
use native.Mathlib.Omega.{arith}
use lib.ListN.{set}
use lib.Seq.{sets}
use Rattle.lists.specs.Tabulate.{tabulate}
use Rattle.lists.proofs.Sets.{sets_more}
use Rattle.protocol.specs.Products.{alternating}

module _ (e f : ℕ → ℕ) where
  pub alternating_even : (i : ℕ) → alternating e f (i * 2) ≡ e i
  alternating_even i =
      let rest : i * 2 % 2 ≡ 0 = omega arith in
      let half : i * 2 / 2 ≡ i = omega arith in
      rw (rest, half)

  pub alternating_odd : (i : ℕ) → alternating e f (i * 2 + 1) ≡ f i
  alternating_odd i =
      let rest : (i * 2 + 1) % 2 ≡ 1 = omega arith in
      let half : (i * 2 + 1) / 2 ≡ i = omega arith in
      rw (rest, half)

  -- a turn of the loop that opens products: two words more
  pub pair_more : (l : List ℕ) (at i : ℕ)
      → set (set (sets l at (tabulate (i * 2) (alternating e f))) (at + i * 2) (e i)) (at + i * 2 + 1) (f i)
      ≡ sets l at (tabulate ((i + 1) * 2) (alternating e f))
  pair_more l at i =
      let g = alternating e f in
      let place : at + i * 2 + 1 ≡ at + (i * 2 + 1) = omega arith in
      let next : i * 2 + 1 + 1 ≡ (i + 1) * 2 = omega arith in
      rw (← alternating_even i, ← alternating_odd i, place, sets_more l at (i * 2) g, sets_more l at (i * 2 + 1) g, next)
