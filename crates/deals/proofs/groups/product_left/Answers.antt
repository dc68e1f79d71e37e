-- `deals::groups::product_left` meets its contract: the product of two sums, less a word.
use Prim.Native.Nat.{ℕ, ◌-◌}
use mathlib.Core.Path.{ap, ◌∙◌}
use lib.ListN.{length, get_or}
use Rattle.field.specs.Width.{modulus}
use Rattle.field.specs.Subtraction.{minus}
use Rattle.deals.proofs.Products.{same_product}
use Rattle.deals.proofs.groups.product_left.Goals as goal

pub returns : goal.returns
returns c =
    let v = c.args in
    let last = length v.w1.now - 1 in
    c.sub.ensures.value
    ∙ ap (λ (total : ℕ). minus v.n.bits total (get_or v.w1.now last 0))
    (c.mul.ensures.value ∙ same_product (modulus v.n.bits) _ _ _ _ c.add-a.ensures.value c.add-b.ensures.value)
