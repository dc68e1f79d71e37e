-- What a start's marks leave, and a cut in one of them (document 02, P9): of the groups from the first number on the lowest so many are 00, the next one
-- holds what the cut left, and no other byte changes.
use Rattle.std.specs.Prelude.{ℕ, suc, ◌+◌, ◌<◌, ◌≤◌, ◌≡◌, true, false, List, ◌⊎◌, length, get_or}
use Rattle.tally.specs.Tally.{Mark, tapes_of, mark_at, mark_of, all_ff, is_fresh, late, first_marks, cut_marks}

abbrev pub zeros : Mark
zeros = record { first = 0; second = 0; third = 0; fourth = 0 }

-- the first so many marks
pub record MarksLeave (tally : List ℕ) (first count : ℕ) : Type 0 where
  pub same_length : length (first_marks tally first count) ≡ length tally
  pub written : (i : ℕ) → i < count → mark_of (first_marks tally first count) (first + i) ≡ zeros
  pub elsewhere : (k : ℕ) → (k < mark_at first) ⊎ (mark_at (first + count) ≤ k) → get_or (first_marks tally first count) k 0 ≡ get_or tally k 0
  -- so these tapes are spent, and every other one is as it was
  pub spent : (i : ℕ) → i < count → is_fresh (first_marks tally first count) (first + i) ≡ false
  pub others : (number : ℕ) → (number < first) ⊎ (first + count ≤ number) → is_fresh (first_marks tally first count) number ≡ is_fresh tally number

-- a cut in the write of mark k
pub record CutsLeave (tally : List ℕ) (first k : ℕ) (left : Mark) : Type 0 where
  pub same_length : length (cut_marks tally first k left) ≡ length tally
  pub before : (i : ℕ) → i < k → mark_of (cut_marks tally first k left) (first + i) ≡ zeros
  pub in_group : mark_of (cut_marks tally first k left) (first + k) ≡ left
  pub elsewhere : (j : ℕ) → (j < mark_at first) ⊎ (mark_at (first + suc k) ≤ j) → get_or (cut_marks tally first k left) j 0 ≡ get_or tally j 0
  -- so the tapes before it are spent, its own can be used just where all four values are FF, and every other one is as it was
  pub spent : (i : ℕ) → i < k → is_fresh (cut_marks tally first k left) (first + i) ≡ false
  pub own : is_fresh (cut_marks tally first k left) (first + k) ≡ all_ff left
  pub others : (number : ℕ) → (number < first) ⊎ (first + suc k ≤ number) → is_fresh (cut_marks tally first k left) number ≡ is_fresh tally number

pub record Starts : Type 0 where
  pub marks : (tally : List ℕ) (first count : ℕ) → first + count ≤ tapes_of (length tally) → MarksLeave tally first count
  pub cuts : (tally : List ℕ) (first k : ℕ) (left : Mark) → first + k < tapes_of (length tally) → CutsLeave tally first k left
  -- a first number that is fresh and not late has no spent one above it, so of the later numbers of a start none is spent (8) or late (15)
  pub later : (tally : List ℕ) (first i : ℕ) → first + i < tapes_of (length tally) → is_fresh tally first ≡ true → late tally first ≡ false
      → (is_fresh tally (first + i) ≡ true) × (late tally (first + i) ≡ false)
