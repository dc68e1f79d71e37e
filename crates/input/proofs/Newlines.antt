-- Where no newline stands, byte by byte.
use Prim.Native.Nat.{ℕ, ◌+◌, ◌<◌}
use mathlib.Core.Path.{◌≡◌, refl, sym, ap, ◌∙◌}
use mathlib.Core.Bool.{Bool, true, false}
use mathlib.Core.List.{List}
use native.Mathlib.Omega.{arith}
use borrow.Author.Tests.{eqb-true, eqb-false}
use lib.Dec.{eqb}
use lib.ListN.{length, get_or, set}
use lib.Seq.{get_or-set_same, get_or-set_other}
use Rattle.input.specs.Line.{OneLine}

-- the bytes so far
abbrev pub NoNewline : ℕ → List ℕ → Type 0
NoNewline len text = (i : ℕ) → i < len → get_or text i 0 ≡ 10 → ⊥

pub one_line : (len : ℕ) (text : List ℕ) → NoNewline len text → OneLine len text
one_line len text none i less = none i (omega arith)

module _ (text : List ℕ) (len b : ℕ) (none : NoNewline len text) where
  -- a byte put after them
  after : NoNewline len (set text len b)
  after i less e = none i less (sym (get_or-set_other text len i b 0 (λ same. omega (arith, same))) ∙ e)

  -- may be a newline
  pub last_line : OneLine (len + 1) (set text len b)
  last_line i less = after i (omega arith)

  -- or it is none
  pub none_more : len < length text → (b ≡ 10 → ⊥) → NoNewline (len + 1) (set text len b)
  none_more room other i less = go (eqb i len) refl
    where
      go : (t : Bool) → eqb i len ≡ t → get_or (set text len b) i 0 ≡ 10 → ⊥
      go true here e = other (sym (ap (λ (k : ℕ). get_or (set text len b) k 0) (eqb-true i len here) ∙ get_or-set_same text len b 0 room) ∙ e)
      go false there e = after i (omega (arith, eqb-false i len there)) e

pub ruleset newlines = (one_line, last_line, none_more)
