-- What the link board may deliver for a message is just what reads as it: so a message that the board delivers is the message after the reading,
-- and a message that is true after the reading is one that the board may deliver.
use Rattle.std.specs.Prelude.{ℕ, ◌≡◌, Bool, List, eqb, get_or}
use Rattle.field.specs.Width.{modulus}
use Rattle.shares.specs.Reading.{read_words, delivered}

pub record Deliveries : Type 0 where
  -- whichever zeros it respells, the words read as they did
  pub same_reading : (n : ℕ) (chosen : ℕ → Bool) (words : List ℕ) → read_words n (delivered n chosen words) ≡ read_words n words
  -- any words are what it delivers of their reading, where it respells those that stand there as p
  pub any_spelling : (n : ℕ) (lent : List ℕ) → delivered n (λ i. eqb (get_or lent i 0) (modulus n)) (read_words n lent) ≡ lent
