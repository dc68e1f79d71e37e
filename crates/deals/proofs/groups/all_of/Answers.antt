use Prim.Native.Nat.{ℕ, ◌+◌, ◌-◌, ◌*◌, ◌<◌}
use mathlib.Core.Path.{◌≡◌, refl, sym, ap, ◌∙◌}
use mathlib.Core.List.{List, ◌++◌}
use native.Mathlib.Nat.{suc-mul, mul-le-mul_right}
use native.Mathlib.Omega.{arith}
use borrow.Rule.Slice.PartMut.{put_mid}
use lib.ListN.{length}
use Rattle.lists.specs.Tabulate.{tabulate}
use Rattle.lists.proofs.Tabulate.{length_tabulate, tabulate_append}
use Rattle.draws.specs.Draws.{draw}
use Rattle.draws.proofs.Draws.{draw_none, draw_after}
use Rattle.deals.specs.Groups.{groups_of, group_length, group_draws, group_word}
use Rattle.deals.specs.Deals.{kind_length, kind_word}
use Rattle.deals.specs.Kinds.{number_of}
use Rattle.deals.proofs.Places.{group_part}
use Rattle.deals.proofs.Fronts.{Front, front_none, front_more, front_all}
use Rattle.deals.proofs.groups.all_of.Goals as goal

-- one box's words
module _ (n side kind v : ℕ) where
  abbrev size : ℕ
  size = group_length n kind

  abbrev front : ℕ → List ℕ
  front g = tabulate (g * size) (kind_word n side kind v)

  none_yet : (l : List ℕ) → Front (front 0) l l
  none_yet l = let none : 0 * size ≡ 0 = omega arith in rw none front_none

  -- a turn
  one_more : (g last : ℕ) (old l part : List ℕ) → g < groups_of n kind → length old ≡ kind_length n kind → last ≡ draw v (g * group_draws n kind)
      → part ≡ tabulate size (group_word n side kind last) → Front (front g) old l → Front (front (g + 1)) old (put_mid (g * size) (g * size + size - g * size) l part)
  one_more g last old l part less whole drawn written h =
      let f = kind_word n side kind v in
      let words = group_part n side kind v g last (g * size) part drawn refl written in
      let more : (g + 1) * size ≡ g * size + size = omega arith in
      front_more h (g * size) size part (front (g + 1)) (length_tabulate (g * size) f) (ap length written ∙ length_tabulate size (group_word n side kind last))
      (omega (arith, mul-le-mul_right size less, suc-mul g size, whole))
      (ap (λ (k : ℕ). tabulate k f) more ∙ tabulate_append (g * size) size f ∙ ap (λ (rest : List ℕ). front g ++ rest) (sym words))

  -- the end
  all_there : (g : ℕ) (old l : List ℕ) → g ≡ groups_of n kind → length old ≡ kind_length n kind → Front (front g) old l
      → l ≡ tabulate (kind_length n kind) (kind_word n side kind v)
  all_there g old l done whole h =
      let f = kind_word n side kind v in
      let end = ap (λ (k : ℕ). k * size) done in
      front_all h (omega (arith, whole, end, length_tabulate (g * size) f)) ∙ ap (λ (k : ℕ). tabulate k f) end

pub loop-g-init : goal.loop-g-init
loop-g-init c =
    let a = c.args in
    let kind = number_of a.kind in
    record {
      drawn = sym (draw_none a.v) ∙ ap (draw a.v) (omega arith);
      box1 = none_yet a.n.bits 1 kind a.v a.w1.now;
      box2 = none_yet a.n.bits 2 kind a.v a.w2.now;
    }

pub loop-g-preserved : goal.loop-g-preserved
loop-g-preserved c =
    let n = c.args.n.bits in
    let kind = number_of c.args.kind in
    let v = c.args.v in
    let g = c.loop-g.g in
    let h = c.loop-g.invariant in
    let once = group_draws n kind in
    let less : g < groups_of n kind = omega (arith, c.loop-g-test.true, c.group_count-g-end.ensures) in
    rw c.group_words-words.ensures
    (record {
      drawn =
          c.group-last.ensures.value
          ∙ ap (λ (last : ℕ). draw last once) h.drawn
          ∙ draw_after v (g * once) once
          ∙ ap (draw v) (omega (arith, suc-mul g once));
      box1 = one_more n 1 kind v g _ _ _ _ less c.requires.0 h.drawn c.group-last.ensures.box1 h.box1;
      box2 = one_more n 2 kind v g _ _ _ _ less c.requires.1 h.drawn c.group-last.ensures.box2 h.box2;
    })

pub returns-clause-box1 : goal.returns-clause-box1
returns-clause-box1 c =
    let a = c.args in
    all_there a.n.bits 1 (number_of a.kind) a.v c.loop-g.g _ _ (omega (arith, c.loop-g-test.false, c.group_count-g-end.ensures)) c.requires.0 c.loop-g.invariant.box1

pub returns-clause-box2 : goal.returns-clause-box2
returns-clause-box2 c =
    let a = c.args in
    all_there a.n.bits 2 (number_of a.kind) a.v c.loop-g.g _ _ (omega (arith, c.loop-g-test.false, c.group_count-g-end.ensures)) c.requires.1 c.loop-g.invariant.box2
