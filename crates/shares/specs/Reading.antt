-- How a word from the line is read (document 02, P3): the link board does its own arithmetic and spells 0 as p now and then.
use Rattle.std.specs.Prelude.{ℕ, Bool, ◌&&◌, cond, List, map, eqb, leb, length, get_or}
use Rattle.lists.specs.Tabulate.{tabulate}
use Rattle.field.specs.Width.{modulus}

-- p is read as 0, any other word as itself
unfoldable pub read : ℕ → ℕ → ℕ
read n word = cond (eqb word (modulus n)) 0 word

-- a word that a box takes from the line: at most p
unfoldable pub legible : ℕ → ℕ → Bool
legible n word = leb word (modulus n)

-- the words of a message after the reading
abbrev pub read_words : ℕ → List ℕ → List ℕ
read_words n words = map (read n) words

-- ---- the board

-- a 0 that the board chooses is spelled p, any other word stays
abbrev pub respelled : ℕ → Bool → ℕ → ℕ
respelled n chosen word = cond (chosen && eqb word 0) (modulus n) word

-- a message as the board delivers it to a box of width n; it chooses by the word's index
unfoldable pub delivered : ℕ → (ℕ → Bool) → List ℕ → List ℕ
delivered n chosen words = tabulate (length words) (λ i. respelled n (chosen i) (get_or words i 0))
