use Prim.Native.Nat.{ℕ, ◌+◌, ◌-◌, ◌*◌, ◌<◌}
use mathlib.Core.Path.{◌≡◌, refl, sym, ap, ap₂, ◌∙◌}
use mathlib.Core.List.{List, ◌++◌}
use native.Mathlib.Numerals.{add-one}
use native.Mathlib.Omega.{arith}
use borrow.Rule.Slice.PartMut.{put_mid}
use lib.ListN.{length}
use lib.Seq.{sets}
use Rattle.lists.specs.Tabulate.{tabulate}
use Rattle.lists.proofs.Sets.{sets_front}
use Rattle.tape.specs.Layout.{tape_length}
use Rattle.draws.specs.Draws.{draw}
use Rattle.draws.proofs.Draws.{draw_none, draw_after}
use Rattle.deals.specs.Groups.{groups_of, group_draws}
use Rattle.deals.specs.Deals.{draws_before, kind_length, kind_word, dealt_kind, dealt_body}
use Rattle.deals.proofs.ByKind.{kind_at}
use Rattle.deals.proofs.Places.{kind_start, stands, first_kinds, kind_long, first_long}
use Rattle.deals.proofs.Fronts.{Front, front_none, front_more}
use Rattle.deals.proofs.bodies.Goals as goal

-- one tape
module _ (seed n side : ℕ) where
  -- a turn
  one_more : (kind at words last : ℕ) (old l part : List ℕ) → kind < 4 → length old ≡ tape_length n → at ≡ kind_start n kind → words ≡ kind_length n kind
      → last ≡ draw seed (draws_before n kind) → part ≡ tabulate (kind_length n kind) (kind_word n side kind last)
      → Front (first_kinds seed n side kind) old l → Front (first_kinds seed n side (kind + 1)) old (put_mid at (at + words - at) l part)
  one_more kind at words last old l part few whole there size drawn written h =
      let dealt : part ≡ dealt_kind seed n side kind = written ∙ ap (λ (v : ℕ). tabulate (kind_length n kind) (kind_word n side kind v)) drawn in
      front_more h at words part _ (first_long seed n side kind ∙ sym there) (ap length dealt ∙ kind_long seed n side kind ∙ sym size)
      (omega (arith, stands n kind few, there, size, whole))
      (ap (first_kinds seed n side) (add-one kind) ∙ ap (λ (rest : List ℕ). first_kinds seed n side kind ++ rest) (sym dealt))

  -- all kinds
  whole_body : (kind : ℕ) (old l : List ℕ) → kind ≡ 4 → Front (first_kinds seed n side kind) old l → l ≡ sets old 0 (dealt_body seed n side)
  whole_body kind old l done h =
      h.same
      ∙ sym (sets_front old (first_kinds seed n side kind) h.within)
      ∙ ap (λ (k : ℕ). sets old 0 (first_kinds seed n side k)) done

pub loop-kind-init : goal.loop-kind-init
loop-kind-init c = record { there = refl; drawn = sym (draw_none _); box1 = front_none; box2 = front_none }

pub loop-kind-preserved : goal.loop-kind-preserved
loop-kind-preserved c =
    let seed = c.args.seed in
    let n = c.args.n.bits in
    let i = c.loop-kind.kind-index in
    let before = c.loop-kind.last in
    let h = c.loop-kind.invariant in
    let e = c.all_of-last.ensures in
    let few : i < 4 = omega (arith, c.loop-kind-test.true) in
    let number = kind_at i few in
    let taken = groups_of n i * group_draws n i in
    let size = c.words.ensures ∙ ap (kind_length n) number in
    let box1 = e.box1 ∙ ap (λ (k : ℕ). tabulate (kind_length n k) (kind_word n 1 k before)) number in
    let box2 = e.box2 ∙ ap (λ (k : ℕ). tabulate (kind_length n k) (kind_word n 2 k before)) number in
    record {
      there = ap₂ (λ (x y : ℕ). x + y) h.there size ∙ ap (kind_start n) (sym (add-one i));
      drawn =
          e.value
          ∙ ap (λ (k : ℕ). draw before (groups_of n k * group_draws n k)) number
          ∙ ap (λ (last : ℕ). draw last taken) h.drawn
          ∙ draw_after seed (draws_before n i) taken
          ∙ ap (λ (k : ℕ). draw seed (draws_before n k)) (sym (add-one i));
      box1 = one_more seed n 1 i _ _ _ _ _ _ few c.requires.0 h.there size h.drawn box1 h.box1;
      box2 = one_more seed n 2 i _ _ _ _ _ _ few c.requires.1 h.there size h.drawn box2 h.box2;
    }

pub returns : goal.returns
returns c =
    let seed = c.args.seed in
    let n = c.args.n.bits in
    let h = c.loop-kind.invariant in
    let done : c.loop-kind.kind-index ≡ 4 = omega (arith, c.loop-kind-test.false) in
    record { box1 = whole_body seed n 1 _ _ _ done h.box1; box2 = whole_body seed n 2 _ _ _ done h.box2 }
