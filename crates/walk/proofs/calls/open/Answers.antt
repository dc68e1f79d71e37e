-- `walk::calls::open` meets its contract: of a band's list the start takes the first word.
use Rattle.std.proofs.Common.{◌≡◌, ℕ, [], ◌∷◌, ap, ◌∙◌, rules}
use lib.ListN.{get_or}
use Rattle.rules.specs.Calls.{start_rule}
use Rattle.rules.specs.declared.state.Task.TheVariants.{Band}
use Rattle.exchange.proofs.Begun.{first_word}
use Rattle.walk.proofs.calls.open.Goals as goal

pub returns-in-Band : goal.returns-in-Band
returns-in-Band c =
    let a = c.args in
    let low = c.in-Band.low in
    let high = c.in-Band.high in
    let share : c.unwrap_or-share.result ≡ get_or a.shares.now 0 0 = search rules in
    rw c.in-Band.is
    (c.start_band.ensures
    ∙ ap (λ (w : ℕ). start_rule a.state.now a.first (Band low high) (w ∷ []) a.tapes.now a.work.now a.tally.now) share
    ∙ first_word a.state.now a.first low high a.shares.now a.tapes.now a.work.now a.tally.now)
