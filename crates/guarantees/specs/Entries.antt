-- The entries of a list (document 01, "The lists of demand 3"): a call or a cut at one box. Dealt tapes are named by their box,
-- first number, count and width, a spoken message by the place of its speak in the list; neither by its words.
use Rattle.std.specs.Prelude.{ℕ, List}
use Rattle.tally.specs.Tally.{Mark}
use Rattle.rules.specs.declared.state.Task.{Task}
use Rattle.guarantees.specs.Boxes.{Box}

-- lent tapes: dealt ones joined, so many of a box from a first number on, or other words
pub data Lent : Type 0 where
  dealt : (box : Box) (first count width : ℕ) → Lent
  loose : List ℕ → Lent

-- incoming words: those spoken at a place of the list, or others; a hear is lent them as the board delivers them (Run)
pub data Incoming : Type 0 where
  spoken_at : (place : ℕ) → Incoming
  other : List ℕ → Incoming

pub data Step : Type 0 where
  wake : (n side pair : ℕ) → Step
  -- of comparisons or of a band, whose bounds stand here; the shares come from a table, by the entry's place
  start : (first : ℕ) → Task → Lent → Step
  speak : (first round : ℕ) → Lent → (out : List ℕ) → Step
  hear : (first round : ℕ) → Lent → Incoming → Step
  drop : Step
  -- the power fails between two calls; work has so many words then
  cut : (room : ℕ) → Step
  -- the power fails in a start's write of the mark of its job `at`, the first one being job 0, which leaves these four bytes there; where it has no
  -- such job, between two calls. Between two marks is in the next one, whose group then stays FF
  cut_start : (first : ℕ) → Task → Lent → (at : ℕ) → (mark : Mark) → (room : ℕ) → Step

pub record Entry : Type 0 where
  pub box : Box
  pub step : Step
