-- Bytes of one line.
use Rattle.std.specs.Prelude.{ℕ, suc, ◌<◌, ◌≡◌, List, get_or}

-- so many bytes are of one line: none of them but the last is a newline
abbrev pub OneLine : ℕ → List ℕ → Type 0
OneLine count text = (i : ℕ) → suc i < count → get_or text i 0 ≡ 10 → ⊥
