-- The laws of the tally that the calls and the lists go by: a mark is not fresh, a cut leaves a tape fresh only by four bytes FF, a mark or a cut
-- at one number changes no byte outside its group, and frees none.
use Prim.Native.Nat.{ℕ, ◌+◌, ◌%◌, ◌<◌, ◌≤◌}
use mathlib.Core.Path.{◌≡◌, refl, sym, ap, ◌∙◌}
use mathlib.Core.Bool.{Bool, true, false, ◌&&◌}
use mathlib.Core.List.{List, [], ◌∷◌}
use mathlib.Core.Logic.{◌⊎◌, inl, inr}
use native.Mathlib.Omega.{arith}
use borrow.Author.Tests.{leb-true, ltb-true, ltb-false, eqb-true, eqb-false}
use lib.Dec.{eqb, leb, ltb}
use lib.ListN.{length, get_or}
use lib.Seq.{length-sets}
use Rattle.lists.proofs.Tests.{and_left, and_right}
use Rattle.lists.proofs.Sets.{get_or_sets_in, get_or_sets_out}
use Rattle.tally.specs.Cuts.{Cuts}
use Rattle.tally.specs.Tally.{Mark, mark_bytes, longest_tally, tally_fits, tapes_of, mark_at, mark_of, with_mark, all_ff, is_fresh, marked, cut_marked}

-- ---- a write of a mark

-- a tape's mark lies within the tally
pub mark_within : (len number : ℕ) → number < tapes_of len → mark_at number + mark_bytes ≤ len
unfolding tapes_of
mark_within len number less = omega arith

-- no byte outside its group changes
pub write_beside : (tally : List ℕ) (number : ℕ) (m : Mark) (k : ℕ) → (k < mark_at number) ⊎ (mark_at number + mark_bytes ≤ k)
    → get_or (with_mark tally number m) k 0 ≡ get_or tally k 0
write_beside tally number m k beside = get_or_sets_out tally (mark_at number) (m.first ∷ m.second ∷ m.third ∷ m.fourth ∷ []) k beside

-- the mark with these bytes, by their index
abbrev mark_from : (ℕ → ℕ) → Mark
mark_from byte = record { first = byte 0; second = byte 1; third = byte 2; fourth = byte 3 }

same_mark : (f g : ℕ → ℕ) → ((i : ℕ) → i < mark_bytes → f i ≡ g i) → mark_from f ≡ mark_from g
same_mark f g same = rw (same 0 (omega arith), same 1 (omega arith), same 2 (omega arith), same 3 (omega arith)) refl

-- what is written is read back
pub write_read : (tally : List ℕ) (number : ℕ) (m : Mark) → number < tapes_of (length tally) → mark_of (with_mark tally number m) number ≡ m
write_read tally number m less =
    let bytes : List ℕ = m.first ∷ m.second ∷ m.third ∷ m.fourth ∷ [] in
    same_mark _ (λ i. get_or bytes i 0) (λ i within. get_or_sets_in tally (mark_at number) bytes i within (mark_within (length tally) number less))

-- the bytes of two marks are apart
apart : (number k : ℕ) → (k ≡ number → ⊥) → (i : ℕ) → i < mark_bytes
    → (mark_at k + i < mark_at number) ⊎ (mark_at number + mark_bytes ≤ mark_at k + i)
apart number k differ i within = go (ltb k number) refl
  where
    go : (t : Bool) → ltb k number ≡ t → (mark_at k + i < mark_at number) ⊎ (mark_at number + mark_bytes ≤ mark_at k + i)
    go true below = inl (omega (arith, ltb-true k number below))
    go false above = inr (omega (arith, ltb-false k number above, differ))

-- another tape's mark is as it was
pub write_other : (tally : List ℕ) (number : ℕ) (m : Mark) (k : ℕ) → (k ≡ number → ⊥) → mark_of (with_mark tally number m) k ≡ mark_of tally k
write_other tally number m k differ = same_mark _ _ (λ i within. write_beside tally number m (mark_at k + i) (apart number k differ i within))

pub write_length : (tally : List ℕ) (number : ℕ) (m : Mark) → length (with_mark tally number m) ≡ length tally
write_length tally number m = length-sets tally (mark_at number) (m.first ∷ m.second ∷ m.third ∷ m.fourth ∷ [])

-- ---- a start's mark, and a cut in it

-- a start's mark is 00 00 00 00
pub marked_spent : (tally : List ℕ) (number : ℕ) → number < tapes_of (length tally) → is_fresh (marked tally number) number ≡ false
unfolding is_fresh marked
marked_spent tally number less = ap all_ff (write_read tally number _ less)

pub marked_other : (tally : List ℕ) (number k : ℕ) → (k ≡ number → ⊥) → is_fresh (marked tally number) k ≡ is_fresh tally k
unfolding is_fresh marked
marked_other tally number k differ = ap all_ff (write_other tally number _ k differ)

pub marked_beside : (tally : List ℕ) (number k : ℕ) → (k < mark_at number) ⊎ (mark_at number + mark_bytes ≤ k)
    → get_or (marked tally number) k 0 ≡ get_or tally k 0
unfolding marked
marked_beside tally number k beside = write_beside tally number _ k beside

pub cut_other : (tally : List ℕ) (number : ℕ) (left : Mark) (k : ℕ) → (k ≡ number → ⊥) → is_fresh (cut_marked tally number left) k ≡ is_fresh tally k
unfolding is_fresh cut_marked
cut_other tally number left k differ = ap all_ff (write_other tally number left k differ)

-- where a tally is changed at one number, and that was fresh, no number becomes fresh
pub frees_none : (before after : List ℕ) (number : ℕ) → is_fresh before number ≡ true
    → ((k : ℕ) → (k ≡ number → ⊥) → is_fresh after k ≡ is_fresh before k) → (k : ℕ) → is_fresh after k ≡ true → is_fresh before k ≡ true
frees_none before after number was same k f = go (eqb k number) refl
  where
    go : (t : Bool) → eqb k number ≡ t → is_fresh before k ≡ true
    go true q = ap (is_fresh before) (eqb-true k number q) ∙ was
    go false q = sym (same k (eqb-false k number q)) ∙ f

pub marked_length : (tally : List ℕ) (number : ℕ) → length (marked tally number) ≡ length tally
unfolding marked
marked_length tally number = write_length tally number _

pub cut_length : (tally : List ℕ) (number : ℕ) (left : Mark) → length (cut_marked tally number left) ≡ length tally
unfolding cut_marked
cut_length tally number left = write_length tally number left

-- all that a cut leaves
pub cuts : Cuts
unfolding is_fresh cut_marked
cuts tally number left less =
    record {
      same_length = cut_length tally number left;
      in_group = write_read tally number left less;
      elsewhere = write_beside tally number left;
      own = ap all_ff (write_read tally number left less);
      others = cut_other tally number left;
    }

-- ---- lengths

pub tally_most : (len : ℕ) → tally_fits len ≡ true → len ≤ longest_tally
unfolding tally_fits
tally_most len e =
    let ranged = and_left (leb mark_bytes len && leb len longest_tally) (eqb (len % mark_bytes) 0) e in
    leb-true len longest_tally (and_right (leb mark_bytes len) (leb len longest_tally) ranged)

pub tapes_most : (len : ℕ) → tapes_of len ≤ len
unfolding tapes_of
tapes_most len = omega arith
