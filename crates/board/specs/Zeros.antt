-- The zeros of a message.
use Rattle.std.specs.Prelude.{ℕ, cond, List, eqb, length, get_or}
use Rattle.lists.specs.Tabulate.{sum}

-- 1 where the word is 0
abbrev pub zero_at : List ℕ → ℕ → ℕ
zero_at words i = cond (eqb (get_or words i 0) 0) 1 0

-- how many of the words are 0
unfoldable pub zeros_in : List ℕ → ℕ
zeros_in words = sum (length words) (zero_at words)
