-- `deals::groups::threefold` meets its contract: the draws stand in order, and box 2's last four words are worked out from them.
use Prim.Native.Nat.{ℕ}
use mathlib.Core.Path.{◌≡◌, ap, ap₂, ◌∙◌}
use mathlib.Core.List.{List, ◌++◌}
use native.Mathlib.Omega.{arith}
use lib.ListN.{length, take, drop, length-drop}
use lib.Seq.{sets, length-take-le}
use Rattle.draws.specs.Draws.{draw}
use Rattle.draws.proofs.Draws.{draw_after}
use Rattle.deals.specs.Steps.{drawn_words, threefold_left}
use Rattle.deals.proofs.Products.{Drawn, length_drawn, drawn, set_rest}
use Rattle.deals.proofs.groups.threefold.Goals.{After-fill-after}
use Rattle.deals.proofs.groups.threefold.Goals as goal

-- box 2's words before its last four are stored: its draws, then the words that are left
module _ (f : After-fill-after) where
  abbrev n : ℕ
  n = f.args.n.bits

  abbrev v : ℕ
  v = f.args.v

  abbrev rest : List ℕ
  rest = drop 3 f.args.w2.now

  four_left : length rest ≡ 4
  four_left = length-drop 3 f.args.w2.now ∙ omega (arith, f.requires.1)

  own_drawn : f.fill-own.new.words ≡ drawn_words n v 7
  own_drawn = f.fill-own.ensures.filled ∙ ap (drawn_words n v) f.requires.0

  own_last : f.fill-own.result ≡ draw v 7
  own_last = f.fill-own.ensures.value ∙ ap (draw v) f.requires.0

  cut : length (take 3 f.args.w2.now) ≡ 3
  cut = length-take-le 3 f.args.w2.now (omega (arith, f.requires.1))

  others_drawn : f.fill-after.new.words ≡ drawn_words n (draw v 7) 3
  others_drawn = f.fill-after.ensures.filled ∙ ap₂ (drawn_words n) own_last cut

  both : Drawn n 7 3 f.fill-own.new.words (f.fill-after.new.words ++ rest)
  both = drawn n v 7 3 rest f.args.n.listed (omega (arith, four_left)) own_drawn others_drawn

pub returns : goal.returns
returns c =
    let f = (goal.at.returns c).After-fill-after in
    let n = c.args.n.bits in
    let v = c.args.v in
    let own = drawn_words n v 7 in
    let front = drawn_words n (draw v 7) 3 in
    record {
      value = c.fill-after.ensures.value ∙ ap₂ draw (own_last f) (cut f) ∙ draw_after v 7 3;
      box1 = own_drawn f;
      box2 =
          c.threefold_left.ensures
          ∙ ap₂ (λ (w1 first : List ℕ). sets (first ++ rest f) 3 (threefold_left n w1 (first ++ rest f))) (own_drawn f) (others_drawn f)
          ∙ set_rest front (rest f) (threefold_left n own front) 3 (length_drawn n (draw v 7) 3) (four_left f);
    }

pub threefold_left-requires-clause-below : goal.threefold_left-requires-clause-below
threefold_left-requires-clause-below c =
    let d = both (goal.at.threefold_left-requires-clause-below c).After-fill-after in
    (d.below1, d.below2)
