-- What a cut in the write of a mark leaves (document 02, P6): any four values in its group, no change elsewhere.
use Rattle.std.specs.Prelude.{ℕ, ◌+◌, ◌<◌, ◌≤◌, ◌≡◌, List, ◌⊎◌, length, get_or}
use Rattle.tally.specs.Tally.{Mark, mark_bytes, tapes_of, mark_at, mark_of, all_ff, is_fresh, cut_marked}

pub record CutLeaves (tally : List ℕ) (number : ℕ) (left : Mark) : Type 0 where
  pub same_length : length (cut_marked tally number left) ≡ length tally
  pub in_group : mark_of (cut_marked tally number left) number ≡ left
  pub elsewhere : (k : ℕ) → (k < mark_at number) ⊎ (mark_at number + mark_bytes ≤ k) → get_or (cut_marked tally number left) k 0 ≡ get_or tally k 0
  -- so the tape can be used after it just where all four values are FF, and every other tape as before
  pub own : is_fresh (cut_marked tally number left) number ≡ all_ff left
  pub others : (k : ℕ) → (k ≡ number → ⊥) → is_fresh (cut_marked tally number left) k ≡ is_fresh tally k

abbrev pub Cuts : Type 0
Cuts = (tally : List ℕ) (number : ℕ) (left : Mark) → number < tapes_of (length tally) → CutLeaves tally number left
