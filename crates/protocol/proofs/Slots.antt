-- What a box's work holds after each round was heard: the named words are new, the others as they were.
use Prim.Native.Nat.{ℕ, ◌<◌, ◌≤◌}
use mathlib.Core.Path.{◌≡◌, ◌∙◌}
use mathlib.Core.Bool.{true}
use mathlib.Core.List.{List}
use mathlib.Core.Logic.{inl, inr}
use native.Mathlib.Omega.{arith}
use lib.ListN.{length}
use lib.Seq.{sets, length-sets}
use Rattle.lists.specs.Tabulate.{tabulate}
use Rattle.field.specs.Width.{listed}
use Rattle.tape.specs.Layout.{group_count}
use Rattle.protocol.specs.Work.{sum_slot, wrap_slot, half_slot, work_length, held}
use Rattle.protocol.specs.Products.{Party, closing}
use Rattle.protocol.specs.Squares.{match_count}
use Rattle.protocol.specs.Levels.{wrap_share}
use Rattle.protocol.specs.Rounds.{doubled_of, squares_of, powers_of, low_sum, level_products, half_share, after_hearing}
use Rattle.protocol.proofs.Reading.{held_stored, held_beside}
use Rattle.protocol.proofs.Below.{count_below, closing_below, sum_below, wrap_below, half_below}

module _ (q : Party) (l : listed q.n ≡ true) (work incoming : List ℕ) (room : work_length q.n ≤ length work) where
  -- round 1: A, then S
  abbrev counts : ℕ → ℕ
  counts = match_count q.n q.side (doubled_of q) (squares_of q) incoming

  abbrev first : List ℕ
  first = sets work 0 (tabulate (group_count q.n) counts)

  pub count_1 : (g : ℕ) → g < group_count q.n
      → held q.n (after_hearing q work 1 incoming) g ≡ match_count q.n q.side (doubled_of q) (squares_of q) incoming g
  unfolding after_hearing
  count_1 g less =
      held_beside q.n first (sum_slot q.n 0) 3 (low_sum q incoming) g (inl (omega arith))
      ∙ held_stored q.n work 0 (group_count q.n) counts g g (omega arith) less (omega arith)
      (count_below q.n l q.side (doubled_of q) (squares_of q) incoming g)

  pub sum_1 : (t : ℕ) → t < 3 → held q.n (after_hearing q work 1 incoming) (sum_slot q.n t) ≡ low_sum q incoming t
  unfolding after_hearing
  sum_1 t less =
      held_stored q.n first (sum_slot q.n 0) 3 (low_sum q incoming) t (sum_slot q.n t) (omega arith) less
      (omega (arith, length-sets work 0 (tabulate (group_count q.n) counts)))
      (sum_below q l incoming t)

  -- round 2: A · w in the place of A
  abbrev levels : ℕ → ℕ
  levels = closing q (level_products q work) incoming 0

  pub level_2 : (g : ℕ) → g < group_count q.n
      → held q.n (after_hearing q work 2 incoming) g ≡ closing q (level_products q work) incoming 0 g
  unfolding after_hearing
  level_2 g less =
      held_stored q.n work 0 (group_count q.n) levels g g (omega arith) less (omega arith)
      (closing_below q l (level_products q work) incoming 0 g)

  pub sum_2 : (t : ℕ) → held q.n (after_hearing q work 2 incoming) (sum_slot q.n t) ≡ held q.n work (sum_slot q.n t)
  unfolding after_hearing
  sum_2 t = held_beside q.n work 0 (group_count q.n) levels (sum_slot q.n t) (inr (omega arith))

  -- round 3: the wraps
  abbrev wraps : ℕ → ℕ
  wraps = wrap_share q.n q.side (powers_of q) work incoming

  pub wrap_3 : (t : ℕ) → t < 3
      → held q.n (after_hearing q work 3 incoming) (wrap_slot q.n t) ≡ wrap_share q.n q.side (powers_of q) work incoming t
  unfolding after_hearing
  wrap_3 t less =
      held_stored q.n work (wrap_slot q.n 0) 3 wraps t (wrap_slot q.n t) (omega arith) less (omega arith)
      (wrap_below q.n l q.side (powers_of q) work incoming t)

  pub sum_3 : (t : ℕ) → t < 3 → held q.n (after_hearing q work 3 incoming) (sum_slot q.n t) ≡ held q.n work (sum_slot q.n t)
  unfolding after_hearing
  sum_3 t less = held_beside q.n work (wrap_slot q.n 0) 3 wraps (sum_slot q.n t) (inl (omega arith))

  -- round 4: the half tests
  pub half_4 : (t : ℕ) → t < 3 → held q.n (after_hearing q work 4 incoming) (half_slot q.n t) ≡ half_share q work incoming t
  unfolding after_hearing
  half_4 t less =
      held_stored q.n work (half_slot q.n 0) 3 (half_share q work incoming) t (half_slot q.n t) (omega arith) less (omega arith)
      (half_below q l work incoming t)
