-- The marks of a tally one after the other: how many of them are fresh, and whether one above a number is spent.
use Prim.Native.Nat.{ℕ, zero, suc, ◌+◌, ◌-◌, ◌*◌, ◌<◌}
use mathlib.Core.Path.{◌≡◌, refl, sym, ap, ◌∙◌}
use mathlib.Core.Bool.{Bool, true, false, cond, not}
use mathlib.Core.List.{List, [], ◌∷◌}
use native.Mathlib.Omega.{arith}
use borrow.Author.Tests.{not-true}
use lib.ListN.{length, get_or, take, drop}
use lib.Seq.{drop-drop}
use Rattle.std.proofs.lemmas.List.{get_or-take, get_or-drop, length-drop}
use Rattle.std.proofs.lemmas.List.Folds.{Any-from_list_any, list_any_at}
use Rattle.std.proofs.lemmas.List.Sums.{sum_by-cons}
use Rattle.std.specs.List.{count_by, list_any}
use Rattle.std.specs.Simd.{first_chunks}
use Rattle.lists.specs.Tabulate.{sum}
use Rattle.lists.proofs.Sums.{sum_first, sum_same}
use Rattle.tally.specs.Tally.{mark_bytes, tapes_of, is_fresh, late, fresh_count}
use Rattle.tally.specs.Bytes.{marks_of}
use Rattle.tally.proofs.Late.{late_by, not_late}

length_chunks : {X : Type 0} (n count : ℕ) (l : List X) → length (first_chunks n count l) ≡ count
length_chunks n zero l = refl
length_chunks n (suc count) l = ap suc (length_chunks n count (drop n l))

length_marks : (tally : List ℕ) → length (marks_of tally) ≡ tapes_of (length tally)
unfolding marks_of
length_marks tally = length_chunks mark_bytes (tapes_of (length tally)) tally

chunk_at : (count : ℕ) (l d : List ℕ) (k : ℕ) → k < count → get_or (first_chunks mark_bytes count l) k d ≡ take mark_bytes (drop (mark_bytes * k) l)
chunk_at zero l d k less = absurd (omega (arith, less))
chunk_at (suc count) l d zero less = refl
chunk_at (suc count) l d (suc k) less =
    chunk_at count (drop mark_bytes l) d k (omega arith)
    ∙ ap (take mark_bytes) (drop-drop (mark_bytes * k) mark_bytes l ∙ ap (λ (i : ℕ). drop i l) (omega arith))

-- a mark alone is as fresh as it is in the tally
pub fresh_mark : (tally d : List ℕ) (k : ℕ) → k < tapes_of (length tally) → is_fresh (get_or (marks_of tally) k d) 0 ≡ is_fresh tally k
unfolding marks_of is_fresh
fresh_mark tally d k less =
    let at = mark_bytes * k in
    let byte : (i : ℕ) → i < mark_bytes → get_or (take mark_bytes (drop at tally)) i 0 ≡ get_or tally (at + i) 0 =
    λ i within. get_or-take mark_bytes (drop at tally) i 0 within ∙ get_or-drop at tally i 0 in
    rw (chunk_at (tapes_of (length tally)) tally d k less, byte 0 (omega arith), byte 1 (omega arith), byte 2 (omega arith), byte 3 (omega arith)) refl

-- ---- how many are fresh

counted : (p : List ℕ → Bool) (marks : List (List ℕ)) → count_by p marks ≡ sum (length marks) (λ j. cond (p (get_or marks j [])) 1 0)
counted p [] = refl
counted p (mark ∷ marks) =
    sum_by-cons (λ (m : List ℕ). cond (p m) 1 0) mark marks
    ∙ ap (λ (count : ℕ). cond (p mark) 1 0 + count) (counted p marks)
    ∙ sym (sum_first (length marks) (λ j. cond (p (get_or (mark ∷ marks) j [])) 1 0))

pub fresh_marks : (tally : List ℕ) → count_by (λ (mark : List ℕ). is_fresh mark 0) (marks_of tally) ≡ fresh_count tally
unfolding fresh_count
fresh_marks tally =
    counted (λ mark. is_fresh mark 0) (marks_of tally)
    ∙ ap (λ (tapes : ℕ). sum tapes (λ j. cond (is_fresh (get_or (marks_of tally) j []) 0) 1 0)) (length_marks tally)
    ∙ sum_same (tapes_of (length tally)) _ _ (λ j less. ap (λ (t : Bool). cond t 1 0) (fresh_mark tally [] j less))

-- ---- whether one above a number is spent

module _ (tally : List ℕ) (number : ℕ) where
  abbrev spent : List ℕ → Bool
  spent mark = not (is_fresh mark 0)

  abbrev above : List (List ℕ)
  above = drop (number + 1) (marks_of tally)

  long : length above ≡ tapes_of (length tally) - (number + 1)
  long = length-drop (number + 1) (marks_of tally) ∙ ap (λ (n : ℕ). n - (number + 1)) (length_marks tally)

  -- the marks above it, by their place among them
  fresh_above : (d : List ℕ) (k : ℕ) → k < length above → is_fresh (get_or above k d) 0 ≡ is_fresh tally (number + 1 + k)
  fresh_above d k inside =
      ap (λ (mark : List ℕ). is_fresh mark 0) (get_or-drop (number + 1) (marks_of tally) k d)
      ∙ fresh_mark tally d (number + 1 + k) (omega (arith, inside, long))

  all_fresh : list_any spent above ≡ false → (k : ℕ) → number < k → k < tapes_of (length tally) → is_fresh tally k ≡ true
  all_fresh none k over within = go (is_fresh tally k) refl
    where
      go : (t : Bool) → is_fresh tally k ≡ t → t ≡ true
      go true e = refl
      go false e =
          let i = k - (number + 1) in
          let inside : i < length above = omega (arith, long) in
          let there : number + 1 + i ≡ k = omega arith in
          sym none
          ∙ list_any_at spent above i [] inside (ap not (fresh_above [] i inside ∙ ap (is_fresh tally) there ∙ e))

  pub spent_above : list_any (λ (mark : List ℕ). not (is_fresh mark 0)) (drop (number + 1) (marks_of tally)) ≡ late tally number
  spent_above = go (list_any spent above) refl
    where
      go : (t : Bool) → list_any spent above ≡ t → t ≡ late tally number
      go true some =
          let (k, mark, inside, here, is_spent) = Any-from_list_any spent above some in
          sym
          (late_by tally number (number + 1 + k) (omega arith) (omega (arith, inside, long))
          (sym (fresh_above mark k inside) ∙ ap (λ (m : List ℕ). is_fresh m 0) here ∙ not-true _ is_spent))
      go false none = sym (not_late tally number (all_fresh none))
