-- `shares::is_side` meets its contract.
use borrow.Author.Tests.{eq-eqb, ne_eqb}
use Rattle.shares.specs.Side.{is_side}
use Rattle.shares.proofs.is_side.Goals as goal

pub returns-then-side-eq1 : goal.returns-then-side-eq1
unfolding is_side
returns-then-side-eq1 c = simp (eq-eqb c.args.side 1 c.if-side-eq1.true)

pub returns-else-side-eq1 : goal.returns-else-side-eq1
unfolding is_side
returns-else-side-eq1 c = simp (ne_eqb c.args.side 1 c.if-side-eq1.false)
