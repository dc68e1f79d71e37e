-- Of the later jobs of a start neither 8 nor 15 can come.
use Prim.Native.Nat.{◌+◌}
use mathlib.Core.Path.{◌≡◌, refl}
use mathlib.Core.Bool.{Bool, true, false, cond}
use lib.Dec.{ltb}
use lib.ListN.{length}
use borrow.Author.Tests.{ltb-true}
use Rattle.refusals.specs.Grounds.{earliest_of}
use Rattle.tally.specs.Tally.{tapes_of}
use Rattle.tally.proofs.Starts.{later_fresh, later_in_time}
use Rattle.rules.specs.Grounds.{mark_grounds}
use Rattle.rules.specs.Later.{LaterMarks}

pub later_marks : LaterMarks
later_marks first i tally fresh in_time = go (ltb (first + i) (tapes_of (length tally))) refl
  where
    go : (t : Bool) → ltb (first + i) (tapes_of (length tally)) ≡ t → earliest_of (mark_grounds (first + i) tally) ≡ cond t 0 7
    go true e =
        rw (e, later_fresh tally first i (ltb-true (first + i) (tapes_of (length tally)) e) fresh in_time, later_in_time tally first i in_time)
        refl
    go false e = rw e refl
