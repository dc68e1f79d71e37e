-- `shares::all_legible` meets its contract: a word is at most p just when it is below p + 1.
use Prim.Native.Nat.{ℕ, ◌+◌}
use mathlib.Core.Path.{◌≡◌, ap, ◌∙◌}
use native.Mathlib.Omega.{arith}
use lib.Dec.{ltb}
use lib.ListN.{length, get_or}
use Rattle.lists.specs.Every.{every}
use Rattle.lists.proofs.Every.{every_same}
use Rattle.field.specs.Width.{modulus}
use Rattle.field.proofs.Widths.{bounds}
use Rattle.shares.specs.Reading.{legible}
use Rattle.shares.proofs.Reading.{legible_below}
use Rattle.shares.proofs.all_legible.Goals as goal

-- the equation first: a wrong bound fails here
pub returns : goal.returns
returns c =
    let a = c.args in
    let words = a.words.now in
    let below : c.all_below.result ≡ every (length words) (λ i. ltb (get_or words i 0) (c.modulus.result + 1)) = c.all_below.ensures in
    below
    ∙ ap (λ (p : ℕ). every (length words) (λ i. ltb (get_or words i 0) (p + 1))) c.modulus.ensures
    ∙ every_same (length words) (λ i. ltb (get_or words i 0) (modulus a.n.bits + 1)) (λ i. legible a.n.bits (get_or words i 0))
    (λ i less. legible_below a.n.bits (get_or words i 0))

pub overflow_add-modulus : goal.overflow_add-modulus
overflow_add-modulus c = omega (arith, bounds c.args.n.listed, c.modulus.ensures)
