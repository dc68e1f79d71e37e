-- A run of stores in a part of a list is a run of stores in the list.
use Prim.Native.Nat.{ℕ, suc, ◌+◌, ◌≤◌}
use mathlib.Core.Path.{◌≡◌, sym, ap, ap₂, ◌∙◌}
use mathlib.Core.List.{List, [], ◌∷◌, ◌++◌}
use native.Mathlib.Nat.{add-zero, add-suc}
use native.Mathlib.Omega.{arith}
use borrow.Rule.Slice.PartMut.{mid_of, put_mid, put_same}
use lib.ListN.{length, set, take, drop}
use lib.Seq.{sets, take-set-le, take-set-lt, drop-set-lt, drop-set-add}
use Rattle.lists.proofs.Sets.{sets_whole}

-- one store in the part
mid_set : (at count : ℕ) (l : List ℕ) (i v : ℕ) → suc i ≤ count → set (mid_of at count l) i v ≡ mid_of at count (set l (at + i) v)
mid_set at count l i v less =
    sym (take-set-lt count (drop at l) i v less) ∙ ap (take count) (sym (drop-set-add at l i v))

put_set : (at count : ℕ) (l part : List ℕ) (i v : ℕ) → suc i ≤ count → put_mid at count l part ≡ put_mid at count (set l (at + i) v) part
put_set at count l part i v less =
    ap₂ (λ (front rest : List ℕ). front ++ (part ++ rest))
    (sym (take-set-le at l (at + i) v (omega arith)))
    (sym (ap (drop count) (drop-set-add at l i v) ∙ drop-set-lt count (drop at l) i v less))

pub put_sets : (at count : ℕ) (l : List ℕ) (low : ℕ) (vs : List ℕ) → low + length vs ≤ count
    → put_mid at count l (sets (mid_of at count l) low vs) ≡ sets l (at + low) vs
put_sets at count l low [] room = put_same at count l
put_sets at count l low (v ∷ vs) room =
    let less : suc low ≤ count = omega arith in
    let next : List ℕ = set l (at + low) v in
    put_set at count l (sets (set (mid_of at count l) low v) (suc low) vs) low v less
    ∙ ap (λ (part : List ℕ). put_mid at count next (sets part (suc low) vs)) (mid_set at count l low v less)
    ∙ put_sets at count next (suc low) vs (omega arith)
    ∙ ap (λ (k : ℕ). sets next k vs) (add-suc at low)

-- a part that is written whole
pub put_whole : (at count : ℕ) (l part : List ℕ) → length part ≡ length (mid_of at count l) → length part ≤ count → put_mid at count l part ≡ sets l at part
put_whole at count l part same room =
    ap (put_mid at count l) (sym (sets_whole (mid_of at count l) part same))
    ∙ put_sets at count l 0 part (omega arith)
    ∙ ap (λ (k : ℕ). sets l k part) (add-zero at)
