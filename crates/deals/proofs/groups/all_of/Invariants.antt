-- `deals::groups::all_of` meets its contract: each turn writes one group, from the draws after the last one's.
use Prim.Native.Nat.{ℕ, ◌*◌}
use mathlib.Core.Path.{◌≡◌}
use mathlib.Core.List.{List}
use Rattle.lists.specs.Tabulate.{tabulate}
use Rattle.draws.specs.Draws.{draw}
use Rattle.deals.specs.Groups.{group_length, group_draws}
use Rattle.deals.specs.Deals.{kind_word}
use Rattle.deals.specs.Kinds.{number_of}
use Rattle.deals.proofs.Fronts.{Front}
use Rattle.deals.proofs.groups.all_of.Given as goal

-- after g groups: the last draw, and both boxes' words: the groups' so far, then the rest as it was
pub record Filled (n kind v : ℕ) (w1₀ w2₀ w1 w2 : List ℕ) (last g : ℕ) : Type 0 where
  pub drawn : last ≡ draw v (g * group_draws n kind)
  pub box1 : Front (tabulate (g * group_length n kind) (kind_word n 1 kind v)) w1₀ w1
  pub box2 : Front (tabulate (g * group_length n kind) (kind_word n 2 kind v)) w2₀ w2

abbrev pub invariant-loop-g : goal.invariant-loop-g
invariant-loop-g l = Filled l.n.bits (number_of l.kind) l.v l.initial.w1 l.initial.w2 l.w1 l.w2 l.last l.g
