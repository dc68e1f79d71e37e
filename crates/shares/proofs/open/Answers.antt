-- `shares::open` meets its contract: it is the field's sum, in which p is 0.
use mathlib.Core.Path.{sym, ◌∙◌}
use Rattle.shares.proofs.Reading.{opened_sum}
use Rattle.shares.proofs.open.Goals as goal

pub returns : goal.returns
returns c =
    let a = c.args in
    record { value = c.add.ensures.value ∙ sym (opened_sum a.n.bits a.sent a.heard); below = c.add.ensures.below }
