-- `tally::spend` meets its contract: what is written in the part that is lent is written in the tally.
use Prim.Native.Nat.{◌+◌, ◌-◌, ◌*◌, ◌≤◌}
use mathlib.Core.Path.{◌≡◌, sym, ◌∙◌}
use mathlib.Core.List.{[], ◌∷◌}
use native.Mathlib.Omega.{arith}
use borrow.Rule.Slice.PartMut.{mid_of, mid_len}
use lib.ListN.{length}
use Rattle.lists.proofs.Parts.{put_whole}
use Rattle.tally.specs.Tally.{mark_bytes, marked}
use Rattle.tally.proofs.Marks.{mark_within}
use Rattle.tally.proofs.spend.Goals.{Start}
use Rattle.tally.proofs.spend.Goals as goal

-- the mark lies within the tally, whose length fits
within : (s : Start) → mark_bytes * s.args.number + mark_bytes ≤ length s.args.tally.now
within s = mark_within (length s.args.tally.now) s.args.number s.requires

-- so many bytes are lent
lent : (s : Start) → let at = mark_bytes * s.args.number in length (mid_of at (at + mark_bytes - at) s.args.tally.now) ≡ mark_bytes
lent s =
    let at = mark_bytes * s.args.number in
    mid_len at (at + mark_bytes) s.args.tally.now (within s) ∙ omega arith

pub overflow_mul-from : goal.overflow_mul-from
overflow_mul-from c = omega (arith, within (goal.at.overflow_mul-from c).Start, c.well_formed.0.0)

pub overflow_add-end : goal.overflow_add-end
overflow_add-end c = omega (arith, within (goal.at.overflow_add-end c).Start, c.well_formed.0.0)

pub slice_bounds-write-end : goal.slice_bounds-write-end
slice_bounds-write-end c = omega (arith, within (goal.at.slice_bounds-write-end c).Start)

pub returns : goal.returns
unfolding marked
returns c =
    let at = mark_bytes * c.args.number in
    rw c.write.ensures
    (put_whole at (at + mark_bytes - at) c.args.tally.now (0 ∷ 0 ∷ 0 ∷ 0 ∷ []) (sym (lent (goal.at.returns c).Start)) (omega arith))
