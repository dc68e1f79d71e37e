-- Lists of words: below p, and as they come from the line.
use Rattle.std.specs.Prelude.{ℕ, ◌<◌, ◌≤◌, List, length, get_or}
use Rattle.field.specs.Width.{modulus}

pub record Below (p : ℕ) (words : List ℕ) : Type 0 where
  pub at : (i : ℕ) → get_or words i 0 < p

-- What the code that reads words from the other box may take for granted of them: p is a second spelling of 0. Every contract that reads such
-- words asks for this record, so a request that changes what is known of them changes it here.
pub record FromLine (n count : ℕ) (words : List ℕ) : Type 0 where
  pub most : (i : ℕ) → get_or words i 0 ≤ modulus n
  pub long : count ≤ length words
