-- `deals::bodies` meets its contract: each turn writes the groups of one kind, from the draws after the last one's.
use Prim.Native.Nat.{ℕ}
use mathlib.Core.Path.{◌≡◌}
use mathlib.Core.List.{List}
use Rattle.draws.specs.Draws.{draw}
use Rattle.deals.specs.Deals.{draws_before}
use Rattle.deals.proofs.Places.{kind_start, first_kinds}
use Rattle.deals.proofs.Fronts.{Front}
use Rattle.deals.proofs.bodies.Given as goal

-- before a kind, by its number: the last draw, the place, and both tapes: the kinds so far, then the rest as it was
pub record Written (seed n : ℕ) (t1₀ t2₀ t1 t2 : List ℕ) (last at kind : ℕ) : Type 0 where
  pub there : at ≡ kind_start n kind
  pub drawn : last ≡ draw seed (draws_before n kind)
  pub box1 : Front (first_kinds seed n 1 kind) t1₀ t1
  pub box2 : Front (first_kinds seed n 2 kind) t2₀ t2

abbrev pub invariant-loop-kind : goal.invariant-loop-kind
invariant-loop-kind l = Written l.seed l.n.bits l.initial.t1 l.initial.t2 l.t1 l.t2 l.last l.at l.kind-index
