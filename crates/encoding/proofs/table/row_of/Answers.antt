-- `encoding::table::row_of` meets its contract: the keys stand in the widths' order, and a listed width that is none of them is the last.
use mathlib.Core.Bool.{false, false≢true}
use mathlib.Core.Logic.{⊎_elim}
use borrow.Author.Tests.{eqb-true, ne_eqb}
use lib.Dec.{eqb}
use Rattle.field.specs.Width.{listed}
use Rattle.lists.proofs.Tests.{or_cases}
use Rattle.encoding.proofs.table.row_of.Goals as goal

pub returns-in-3 : goal.returns-in-3
returns-in-3 c = rw c.in-3.is

pub returns-in-5 : goal.returns-in-5
returns-in-5 c = rw c.in-5.is

pub returns-in-7 : goal.returns-in-7
returns-in-7 c = rw c.in-7.is

pub returns-in-13 : goal.returns-in-13
returns-in-13 c = rw c.in-13.is

pub returns-in-17 : goal.returns-in-17
returns-in-17 c = rw c.in-17.is

pub returns-in-19 : goal.returns-in-19
returns-in-19 c = rw c.in-19.is

pub returns-in_default : goal.returns-in_default
unfolding listed
returns-in_default c =
    let n = c.args.n.bits in
    let none = c.in_default.in_default-own.rest in
    let left =
    simp (
      ne_eqb n 3 none.0.0.0.0.0.1,
      ne_eqb n 5 none.0.0.0.0.1,
      ne_eqb n 7 none.0.0.0.1,
      ne_eqb n 13 none.0.0.1,
      ne_eqb n 17 none.0.1,
      ne_eqb n 19 none.1,
    ) at c.args.n.listed in
    rw (⊎_elim (λ e. eqb-true n 31 e) (λ e. absurd (false≢true e)) (or_cases (eqb n 31) false left))
