-- The list of a box's shares: how it is stored, and that all are below 7.
use Prim.Native.Nat.{ℕ, ◌+◌, ◌*◌, ◌%◌}
use mathlib.Core.Path.{◌≡◌, ap₂, ◌∙◌}
use mathlib.Core.List.{List}
use native.Mathlib.Omega.{arith}
use lib.ListN.{replicate, set}
use lib.Seq.{sets}
use Rattle.lists.specs.Tabulate.{tabulate}
use Rattle.lists.proofs.Sets.{sets_more, sets_whole}
use Rattle.lists.proofs.Tabulate.{length_tabulate}
use Rattle.bench.specs.Eight.{list}

module _ (from step : ℕ) where
  abbrev share : ℕ → ℕ
  share k = (from + step * k) % 7

  -- those stored first, of zeros
  abbrev pub stored : ℕ → List ℕ
  stored k = sets (replicate 16 0) 0 (tabulate k share)

  pub store_next : (k : ℕ) (l : List ℕ) → l ≡ stored k → set l k (share k) ≡ stored (k + 1)
  store_next k l e =
      ap₂ (λ (l : List ℕ) (at : ℕ). set l at (share k)) e (omega arith)
      ∙ sets_more (replicate 16 0) 0 k share

  pub store_all : (k : ℕ) (l : List ℕ) → l ≡ stored k → k ≡ 16 → l ≡ list from step
  store_all k l e all = rw all at e ∙ sets_whole (replicate 16 0) (tabulate 16 share) (length_tabulate 16 share)
