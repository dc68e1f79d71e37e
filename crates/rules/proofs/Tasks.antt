-- What a start asks, where it is in range: 1 to 8 comparisons with two shares each, or a band with its bounds below p.
use Prim.Native.Nat.{ℕ, ◌*◌, ◌<◌}
use mathlib.Core.Path.{◌≡◌, refl}
use mathlib.Core.Bool.{true}
use mathlib.Core.List.{List}
use lib.Dec.{ltb}
use lib.ListN.{length}
use borrow.Author.Tests.{ltb-true}
use Rattle.lists.proofs.Tests.{and_left, and_right}
use Rattle.field.specs.Width.{modulus}
use Rattle.protocol.specs.Sizes.{count_fits}
use Rattle.rules.specs.Tasks.{count_of, bounds_fit, task_fits, pairs_of}
use Rattle.rules.specs.Moves.{Asked}
use Rattle.rules.specs.declared.state.Task.{Task}
use Rattle.rules.specs.declared.state.Task.TheVariants.{Compare, Band}

pub counted : (n : ℕ) (task : Task) → task_fits n task ≡ true → count_fits (count_of task) ≡ true
unfolding count_fits
counted n (Compare count) e = e
counted n (Band low high) e = refl

pub bounds_in : (n low high : ℕ) → bounds_fit n low high ≡ true → (low < high) × (high < modulus n)
bounds_in n low high e =
    (ltb-true low high (and_left (ltb low high) (ltb high (modulus n)) e), ltb-true high (modulus n) (and_right (ltb low high) (ltb high (modulus n)) e))

-- two shares for each comparison
pub two_each : (n side : ℕ) (task : Task) (shares : List ℕ) → Asked n task shares → length (pairs_of side task shares) ≡ 2 * count_of task
two_each n side (Compare count) shares asked = asked
two_each n side (Band low high) shares asked = refl
