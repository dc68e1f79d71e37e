-- `deals::groups::product` meets its contract: the draws stand in order, and the last word is worked out from them.
use Prim.Native.Nat.{ℕ, ◌-◌}
use mathlib.Core.Path.{◌≡◌, ap, ap₂, ◌∙◌}
use mathlib.Core.List.{List, [], ◌∷◌, ◌++◌}
use native.Mathlib.Omega.{arith}
use lib.ListN.{length, take, drop, set, length-drop}
use lib.Seq.{length-take-le}
use Rattle.draws.specs.Draws.{draw}
use Rattle.draws.proofs.Draws.{draw_after}
use Rattle.deals.specs.Steps.{drawn_words, product_left}
use Rattle.deals.proofs.Products.{Drawn, length_drawn, drawn, product_same, set_rest}
use Rattle.deals.proofs.groups.product.Goals.{After-fill-after}
use Rattle.deals.proofs.groups.product.Goals as goal

-- box 2's words before its last is stored: its draws, then the one word that is left
module _ (f : After-fill-after) where
  abbrev count : ℕ
  count = length f.args.w1.now

  abbrev rest : List ℕ
  rest = drop (count - 1) f.args.w2.now

  one_left : length rest ≡ 1
  one_left = length-drop (count - 1) f.args.w2.now ∙ omega (arith, f.requires.0, f.requires.1)

  own_drawn : f.fill-own.new.words ≡ drawn_words f.args.n.bits f.args.v count
  own_drawn = f.fill-own.ensures.filled

  cut : length (take (count - 1) f.args.w2.now) ≡ count - 1
  cut = length-take-le (count - 1) f.args.w2.now (omega (arith, f.requires.1))

  others_drawn : f.fill-after.new.words ≡ drawn_words f.args.n.bits (draw f.args.v count) (count - 1)
  others_drawn =
      f.fill-after.ensures.filled
      ∙ ap₂ (drawn_words f.args.n.bits) f.fill-own.ensures.value cut

  both : Drawn f.args.n.bits count (count - 1) f.fill-own.new.words (f.fill-after.new.words ++ rest)
  both =
      drawn f.args.n.bits f.args.v count (count - 1) rest f.args.n.listed (omega (arith, one_left, f.requires.0)) own_drawn others_drawn

pub returns : goal.returns
returns c =
    let f = (goal.at.returns c).After-fill-after in
    let n = c.args.n.bits in
    let v = c.args.v in
    let k = count f in
    let front = drawn_words n (draw v k) (k - 1) in
    let last : c.product_left.result ≡ product_left n (drawn_words n v k) front =
    c.product_left.ensures ∙ ap₂ (product_left n) (own_drawn f) (ap (λ (words : List ℕ). words ++ rest f) (others_drawn f))
    ∙ product_same n v k (rest f) c.requires.0 in
    record {
      value = c.fill-after.ensures.value ∙ ap₂ draw c.fill-own.ensures.value (cut f) ∙ draw_after v k (k - 1);
      box1 = own_drawn f;
      box2 =
          ap₂ (λ (words : List ℕ) (x : ℕ). set (words ++ rest f) (k - 1) x) (others_drawn f) last
          ∙ set_rest front (rest f) (_ ∷ []) (k - 1) (length_drawn n (draw v k) (k - 1)) (one_left f);
    }

pub product_left-requires-clause-below : goal.product_left-requires-clause-below
product_left-requires-clause-below c =
    let d = both (goal.at.product_left-requires-clause-below c).After-fill-after in
    (λ j l. d.below1 j (omega (arith, l, d.long1)), λ j l. d.below2 j (omega (arith, l, d.long1)))
