-- What each place of out must hold once the last words of a message are filled in.
use Rattle.std.specs.Prelude.{ℕ, ◌-◌, Bool, ◌&&◌, cond, List, eqb, leb, ltb, length, get_or, replicate}
use Rattle.lists.specs.Every.{every}

-- what stands in a place of out that was not written to: no word of a message
abbrev pub filler : ℕ
filler = 4294967295

-- so many of them
unfoldable pub blank : ℕ → List ℕ
blank count = replicate count filler

-- what place j must hold: the word that it has in the whole message, if that is one of the last `count`
unfoldable pub due_at : List ℕ → ℕ → ℕ → ℕ
due_at words count j = cond (leb (length words - count) j && ltb j (length words)) (get_or words j 0) filler

-- whether every place of out does
unfoldable pub as_due : List ℕ → List ℕ → ℕ → Bool
as_due out words count = every (length out) (λ j. eqb (get_or out j 0) (due_at words count j))
