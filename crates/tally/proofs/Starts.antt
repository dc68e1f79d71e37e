-- The laws of a start's marks, and of a cut in one of them: the groups that were written hold 00, no other byte changes, and no tape becomes fresh.
-- Of the later numbers of a start none is spent or late.
use Prim.Native.Nat.{ℕ, zero, suc, ◌+◌, ◌-◌, ◌<◌, ◌≤◌}
use mathlib.Core.Path.{◌≡◌, refl, sym, ap, ◌∙◌}
use mathlib.Core.Bool.{Bool, true, false}
use mathlib.Core.List.{List}
use mathlib.Core.Logic.{◌⊎◌, inl, inr, ⊎_elim}
use native.Mathlib.Nat.{add-zero, not-suc-le-zero, le_of_suc-le-suc, eq-or-lt_of_le}
use native.Mathlib.Omega.{arith}
use lib.ListN.{length, get_or}
use Rattle.std.proofs.lemmas.Bool.{cases_lt}
use Rattle.tally.specs.Tally.{Mark, tapes_of, mark_at, mark_of, all_ff, is_fresh, late, marked, cut_marked, first_marks, cut_marks}
use Rattle.tally.specs.Starts.{zeros, MarksLeave, CutsLeave, Starts}
use Rattle.tally.proofs.Marks.{write_read, write_other, marked_beside, marked_length, cut_length, cut_other, cuts}
use Rattle.tally.proofs.Late.{not_late, spent_below}

-- ---- the first so many marks

pub first_length : (tally : List ℕ) (first count : ℕ) → length (first_marks tally first count) ≡ length tally
first_length tally first zero = refl
first_length tally first (suc k) = marked_length _ _ ∙ first_length tally first k

-- the next number is a tape's, in the tally as the marks before it left it
next_within : (tally : List ℕ) (first k : ℕ) → first + k < tapes_of (length tally) → first + k < tapes_of (length (first_marks tally first k))
next_within tally first k less = rw (first_length tally first k) less

-- one such write, as it is read back: the group that it wrote, and another tape's
marked_here : (tally : List ℕ) (number : ℕ) → number < tapes_of (length tally) → mark_of (marked tally number) number ≡ zeros
unfolding marked
marked_here tally number less = write_read tally number zeros less

marked_there : (tally : List ℕ) (number k : ℕ) → (k ≡ number → ⊥) → mark_of (marked tally number) k ≡ mark_of tally k
unfolding marked
marked_there tally number k differ = write_other tally number zeros k differ

-- all of them: the groups that they wrote, and those of the other tapes
written : (tally : List ℕ) (first count : ℕ) → first + count ≤ tapes_of (length tally) → (i : ℕ) → i < count
    → mark_of (first_marks tally first count) (first + i) ≡ zeros
written tally first zero room i less = absurd (not-suc-le-zero less)
written tally first (suc k) room i less =
    ⊎_elim
    (λ same. rw same (marked_here _ _ (next_within tally first k (omega arith))))
    (λ before. marked_there _ _ (first + i) (λ same. omega arith) ∙ written tally first k (omega arith) i before)
    (eq-or-lt_of_le (le_of_suc-le-suc less))

kept : (tally : List ℕ) (first count number : ℕ) → (number < first) ⊎ (first + count ≤ number)
    → mark_of (first_marks tally first count) number ≡ mark_of tally number
kept tally first zero number apart = refl
kept tally first (suc k) number apart =
    marked_there _ _ number (⊎_elim (λ low same. omega arith) (λ high same. omega arith) apart)
    ∙ kept tally first k number (⊎_elim (λ low. inl low) (λ high. inr (omega arith)) apart)

-- byte by byte
first_beside : (tally : List ℕ) (first count k : ℕ) → (k < mark_at first) ⊎ (mark_at (first + count) ≤ k)
    → get_or (first_marks tally first count) k 0 ≡ get_or tally k 0
first_beside tally first zero k beside = refl
first_beside tally first (suc i) k beside =
    marked_beside _ _ k (⊎_elim (λ low. inl (omega arith)) (λ high. inr (omega arith)) beside)
    ∙ first_beside tally first i k (⊎_elim (λ low. inl low) (λ high. inr (omega arith)) beside)

-- these tapes are spent
pub first_spent : (tally : List ℕ) (first count : ℕ) → first + count ≤ tapes_of (length tally) → (i : ℕ) → i < count
    → is_fresh (first_marks tally first count) (first + i) ≡ false
unfolding is_fresh
first_spent tally first count room i less = ap all_ff (written tally first count room i less)

-- every other one is as it was
pub first_others : (tally : List ℕ) (first count number : ℕ) → (number < first) ⊎ (first + count ≤ number)
    → is_fresh (first_marks tally first count) number ≡ is_fresh tally number
unfolding is_fresh
first_others tally first count number apart = ap all_ff (kept tally first count number apart)

-- ---- a cut in the next of them

-- the groups before it are as they were written
cut_before : (tally : List ℕ) (first k : ℕ) (left : Mark) → first + k ≤ tapes_of (length tally) → (i : ℕ) → i < k
    → mark_of (cut_marks tally first k left) (first + i) ≡ zeros
unfolding cut_marked
cut_before tally first k left room i less = write_other _ _ left (first + i) (λ same. omega arith) ∙ written tally first k room i less

pub cut_first_length : (tally : List ℕ) (first k : ℕ) (left : Mark) → length (cut_marks tally first k left) ≡ length tally
cut_first_length tally first k left = cut_length _ _ left ∙ first_length tally first k

pub cut_first_others : (tally : List ℕ) (first k : ℕ) (left : Mark) (number : ℕ) → (number < first) ⊎ (first + suc k ≤ number)
    → is_fresh (cut_marks tally first k left) number ≡ is_fresh tally number
cut_first_others tally first k left number apart =
    cut_other _ _ left number (⊎_elim (λ low same. omega arith) (λ high same. omega arith) apart)
    ∙ first_others tally first k number (⊎_elim (λ low. inl low) (λ high. inr (omega arith)) apart)

-- ---- no tape becomes fresh

-- where a tally is changed only at numbers that were fresh, no number becomes fresh
pub none_freed : (before after : List ℕ) (first count : ℕ) → ((i : ℕ) → i < count → is_fresh before (first + i) ≡ true)
    → ((k : ℕ) → (k < first) ⊎ (first + count ≤ k) → is_fresh after k ≡ is_fresh before k)
    → (k : ℕ) → is_fresh after k ≡ true → is_fresh before k ≡ true
none_freed before after first count were same k f = go (cases_lt k first) (cases_lt k (first + count))
  where
    go : (k < first) ⊎ (first ≤ k) → (k < first + count) ⊎ (first + count ≤ k) → is_fresh before k ≡ true
    go (inl low) _ = sym (same k (inl low)) ∙ f
    go (inr from) (inl below) = ap (is_fresh before) (omega arith) ∙ were (k - first) (omega arith)
    go (inr from) (inr high) = sym (same k (inr high)) ∙ f

-- ---- the later numbers of a start

-- above a number that is not late every tape is fresh
above_fresh : (tally : List ℕ) (number k : ℕ) → late tally number ≡ false → number < k → k < tapes_of (length tally) → is_fresh tally k ≡ true
above_fresh tally number k in_time above within = go (is_fresh tally k) refl
  where
    go : (t : Bool) → is_fresh tally k ≡ t → is_fresh tally k ≡ true
    go true fresh = fresh
    go false spent = absurd (omega (arith, above, spent_below tally number k in_time within spent))

pub later_fresh : (tally : List ℕ) (first i : ℕ) → first + i < tapes_of (length tally) → is_fresh tally first ≡ true → late tally first ≡ false
    → is_fresh tally (first + i) ≡ true
later_fresh tally first zero within fresh in_time = rw (add-zero first) fresh
later_fresh tally first (suc i) within fresh in_time = above_fresh tally first (first + suc i) in_time (omega arith) within

pub later_in_time : (tally : List ℕ) (first i : ℕ) → late tally first ≡ false → late tally (first + i) ≡ false
later_in_time tally first i in_time = not_late tally (first + i) (λ k above within. above_fresh tally first k in_time (omega arith) within)

-- nor does a start's mark make a later number late, so the same jobs can be started one by one
pub first_in_time : (tally : List ℕ) (first k number : ℕ) → first + k ≤ number → late tally number ≡ false
    → late (first_marks tally first k) number ≡ false
first_in_time tally first k number past in_time =
    not_late _ number
    (λ m above within.
    first_others tally first k m (inr (omega arith)) ∙ above_fresh tally number m in_time above (rw (first_length tally first k) at within))

-- ---- all of it

marks_leave : (tally : List ℕ) (first count : ℕ) → first + count ≤ tapes_of (length tally) → MarksLeave tally first count
marks_leave tally first count room =
    record {
      same_length = first_length tally first count;
      written = written tally first count room;
      elsewhere = first_beside tally first count;
      spent = first_spent tally first count room;
      others = first_others tally first count;
    }

cuts_leave : (tally : List ℕ) (first k : ℕ) (left : Mark) → first + k < tapes_of (length tally) → CutsLeave tally first k left
unfolding is_fresh
cuts_leave tally first k left less =
    let cut = cuts _ _ left (next_within tally first k less) in
    record {
      same_length = cut_first_length tally first k left;
      before = cut_before tally first k left (omega arith);
      in_group = cut.in_group;
      elsewhere = λ j beside.
          cut.elsewhere j (⊎_elim (λ low. inl (omega arith)) (λ high. inr (omega arith)) beside)
          ∙ first_beside tally first k j (⊎_elim (λ low. inl low) (λ high. inr (omega arith)) beside);
      spent = λ i before. ap all_ff (cut_before tally first k left (omega arith) i before);
      own = cut.own;
      others = cut_first_others tally first k left;
    }

pub starts : Starts
starts =
    record {
      marks = marks_leave;
      cuts = cuts_leave;
      later = λ tally first i within fresh in_time. (later_fresh tally first i within fresh in_time, later_in_time tally first i in_time);
    }
