-- `shares::constant` meets its contract.
use borrow.Author.Rules.{rules}
use borrow.Author.Tests.{eq-eqb, ne_eqb}
use Rattle.shares.specs.Share.{constant_share}
use Rattle.shares.proofs.constant.Goals as goal

pub returns-then-side-eq1 : goal.returns-then-side-eq1
unfolding constant_share
returns-then-side-eq1 c = record { value = simp (eq-eqb c.args.side 1 c.if-side-eq1.true); most = search rules }

pub returns-else-side-eq1 : goal.returns-else-side-eq1
unfolding constant_share
returns-else-side-eq1 c = record { value = simp (ne_eqb c.args.side 1 c.if-side-eq1.false); most = search rules }
