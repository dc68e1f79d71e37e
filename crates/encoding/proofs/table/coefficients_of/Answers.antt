-- `encoding::table::coefficients_of` meets its contract: the rows stand in the widths' order, and the table is that of specs/, filled up.
use native.Mathlib.Omega.{arith}
use Rattle.encoding.proofs.Rows.{entry_right, row_length, place_below}
use Rattle.encoding.proofs.table.coefficients_of.Goals as goal

pub offset_bounds-row : goal.offset_bounds-row
offset_bounds-row c = omega (arith, place_below c.args.n.bits c.args.n.listed)

pub bounds-row-row : goal.bounds-row-row
bounds-row-row c = omega (arith, place_below c.args.n.bits c.args.n.listed)

pub returns : goal.returns
returns c =
    let e = c.row_of-row.ensures in
    (λ k most. rw e (entry_right c.args.n.bits k c.args.n.listed most), rw e (row_length c.args.n.bits c.args.n.listed))
