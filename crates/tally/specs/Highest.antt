-- What late means, in the words of document 02 (P4): below the highest spent number; where no tape is spent, none is late.
use Rattle.std.specs.Prelude.{ℕ, ◌<◌, ◌≡◌, true, false, List, [], ◌∷◌, ltb, length}
use Rattle.tally.specs.Tally.{tapes_of, is_fresh, late}

-- the highest spent number: its mark is not fresh, and every one above it is
pub record Highest (tally : List ℕ) (number : ℕ) : Type 0 where
  pub within : number < tapes_of (length tally)
  pub spent : is_fresh tally number ≡ false
  pub above : (k : ℕ) → number < k → k < tapes_of (length tally) → is_fresh tally k ≡ true

pub record LateMeans : Type 0 where
  pub below : (tally : List ℕ) (highest number : ℕ) → Highest tally highest → late tally number ≡ ltb number highest
  pub none_spent : (tally : List ℕ) (number : ℕ) → ((k : ℕ) → k < tapes_of (length tally) → is_fresh tally k ≡ true) → late tally number ≡ false

-- three tapes with a half-written mark, FF FF FF 00, in the middle
abbrev pub half_written : List ℕ
half_written = 255 ∷ 255 ∷ 255 ∷ 255 ∷ 255 ∷ 255 ∷ 255 ∷ 0 ∷ 255 ∷ 255 ∷ 255 ∷ 255 ∷ []

-- it is spent, the number below it is late, its own and the one above it are not
pub record Around : Type 0 where
  pub spent : is_fresh half_written 1 ≡ false
  pub just_below : late half_written 0 ≡ true
  pub at_it : late half_written 1 ≡ false
  pub just_above : late half_written 2 ≡ false
