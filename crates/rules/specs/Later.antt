-- Of the later jobs of a start 8 and 15 cannot come (document 02, P9): once the first job's tape is fresh and not late, no mark above it is spent, so
-- the grounds of a later job's mark come to 7 where the tally has no such mark, else to nothing. The tally is read once.
use Rattle.std.specs.Prelude.{ℕ, ◌+◌, ◌≡◌, true, false, cond, List, ltb, length}
use Rattle.refusals.specs.Grounds.{earliest_of}
use Rattle.tally.specs.Tally.{tapes_of, is_fresh, late}
use Rattle.rules.specs.Grounds.{mark_grounds}

abbrev pub LaterMarks : Type 0
LaterMarks =
    (first i : ℕ) (tally : List ℕ) → is_fresh tally first ≡ true → late tally first ≡ false
    → earliest_of (mark_grounds (first + i) tally) ≡ cond (ltb (first + i) (tapes_of (length tally))) 0 7
