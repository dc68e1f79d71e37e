-- Text put into a lent slice, piece after piece.
use Rattle.std.specs.Prelude.{ℕ, ◌≡◌, ◌≤◌, ◌+◌, List, length}
use Rattle.std.proofs.lemmas.List.Edits.{sets}
use Rattle.lines.specs.declared.writing.Page.{Page}

-- so many bytes more
abbrev pub HasRoom : Page → ℕ → Type 0
HasRoom p n = p.len + n ≤ length p.out.now

-- the text stands after what was written, in the same slice, the rest of which is as it was
pub record Puts (old new : Page) (text : List ℕ) : Type 0 where
  pub out : new.out.now ≡ sets old.out.now old.len text
  pub len : new.len ≡ old.len + length text
  pub whole : length new.out.now ≡ length old.out.now
  pub same : new.out.ghost_name ≡ old.out.ghost_name
