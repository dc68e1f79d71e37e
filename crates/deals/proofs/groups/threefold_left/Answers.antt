-- `deals::groups::threefold_left` meets its contract: each product of the summed masks, less box 1's word of it.
use Prim.Native.Nat.{ℕ, ◌+◌, ◌*◌, ◌%◌}
use mathlib.Core.Path.{◌≡◌, refl, ap, ◌∙◌}
use mathlib.Core.List.{List, [], ◌∷◌}
use lib.ListN.{get_or, set}
use lib.Seq.{sets}
use Rattle.field.specs.Width.{modulus}
use Rattle.field.specs.Subtraction.{minus}
use Rattle.deals.proofs.Products.{same_product}
use Rattle.deals.proofs.groups.threefold_left.Goals.{After-mul-ab}
use Rattle.deals.proofs.groups.threefold_left.Goals as goal

-- four stores
stored : (l : List ℕ) {x3 x4 x5 x6 y3 y4 y5 y6 : ℕ} → x3 ≡ y3 → x4 ≡ y4 → x5 ≡ y5 → x6 ≡ y6
    → set (set (set (set l 3 x3) 4 x4) 5 x5) 6 x6 ≡ sets l 3 (y3 ∷ y4 ∷ y5 ∷ y6 ∷ [])
stored l e3 e4 e5 e6 = rw (e3, e4, e5, e6) refl

-- the sums, and the first product
module _ (m : After-mul-ab) where
  abbrev p : ℕ
  p = modulus m.args.n.bits

  abbrev mask : ℕ → ℕ
  mask j = get_or m.args.w1.now j 0 + get_or m.args.w2.now j 0

  -- what is left of a product
  left : (j x product total : ℕ) → let own = get_or m.args.w1.now j 0 in
      x ≡ minus m.args.n.bits product own → product ≡ total → x ≡ minus m.args.n.bits total own
  left j x product total e whole = e ∙ ap (λ (t : ℕ). minus m.args.n.bits t (get_or m.args.w1.now j 0)) whole

  ab : m.mul-ab.result ≡ mask 0 * mask 1 % p
  ab = m.mul-ab.ensures.value ∙ same_product p (mask 0) (mask 1) _ _ m.add-a.ensures.value m.add-b.ensures.value

pub returns : goal.returns
returns c =
    let m = (goal.at.returns c).After-mul-ab in
    let a = c.add-a.ensures.value in
    let b = c.add-b.ensures.value in
    let z = c.add-c.ensures.value in
    stored c.args.w2.now
    (left m 3 _ _ _ c.sub.ensures.value (ab m))
    (left m 4 _ _ _ c.sub-2.ensures.value (c.mul.ensures.value ∙ same_product (p m) (mask m 0) (mask m 2) _ _ a z))
    (left m 5 _ _ _ c.sub-3.ensures.value (c.mul-2.ensures.value ∙ same_product (p m) (mask m 1) (mask m 2) _ _ b z))
    (left m 6 _ _ _ c.sub-4.ensures.value
    (c.mul-3.ensures.value ∙ same_product (p m) (mask m 0 * mask m 1) (mask m 2) _ _ (ab m) z))
