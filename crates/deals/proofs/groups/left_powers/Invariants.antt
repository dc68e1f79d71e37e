-- `deals::groups::left_powers` meets its contract: each turn leaves box 1's word of one power.
use Prim.Native.Nat.{ℕ, ◌%◌, ◌^◌, ◌<◌}
use mathlib.Core.Path.{◌≡◌}
use mathlib.Core.List.{List}
use lib.ListN.{length, get_or}
use Rattle.lists.proofs.Stores.{Stored}
use Rattle.field.specs.Width.{modulus}
use Rattle.field.specs.Subtraction.{minus}
use Rattle.deals.specs.Steps.{power_at}
use Rattle.deals.proofs.groups.left_powers.Given as goal

-- before turn j: what both boxes' words of that turn come to, the power of r, and the words stored so far
pub record Turn (n w r : ℕ) (w1 w2₀ w2 : List ℕ) (total power j : ℕ) : Type 0 where
  pub total_is : total ≡ power_at n w r j
  pub total_below : total < modulus n
  pub power_is : power ≡ r ^ j % modulus n
  pub power_below : power < modulus n
  pub stored : Stored w2₀ 0 (length w1) (λ i. minus n (power_at n w r i) (get_or w1 i 0)) w2 j

abbrev pub invariant-loop-j : goal.invariant-loop-j
invariant-loop-j l = Turn l.n.bits l.w l.r l.w1 l.initial.w2 l.w2 l.total l.power l.j
