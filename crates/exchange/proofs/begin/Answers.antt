-- `exchange::begin` meets its contract: a refused wake ends it, and otherwise the start's answer comes back.
use Rattle.std.proofs.Common.{◌≡◌, ℕ, [], ◌∷◌, Err, sym, ap, ◌∙◌, rules}
use lib.ListN.{get_or}
use Rattle.rules.specs.Calls.{start_rule}
use Rattle.rules.specs.declared.state.Task.TheVariants.{Compare, Band}
use Rattle.exchange.proofs.Begun.{begun_refused, begun_woken, first_word}
use Rattle.exchange.proofs.begin.Goals as goal

pub returns-in_err-wake : goal.returns-in_err-wake
returns-in_err-wake c =
    let a = c.args in
    let same : c.from_residual.result ≡ Err c.in_err-wake.field-0.0 = search rules in
    rw same
    (begun_refused a.state.now a.n a.side a.pair a.first a.task a.shares.now a.tapes.now a.work.now a.tally.now
    c.in_err-wake.field-0.0 c.wake.new.state c.in_err-wake.ensures)

pub returns-in-Compare : goal.returns-in-Compare
returns-in-Compare c =
    let a = c.args in
    rw c.in-Compare.is
    (c.start.ensures
    ∙ sym
    (begun_woken a.state.now a.n a.side a.pair a.first (Compare c.in-Compare.count) a.shares.now a.tapes.now a.work.now a.tally.now
    c.in_ok-wake.field-0 c.wake.new.state c.in_ok-wake.ensures))

pub returns-in-Band : goal.returns-in-Band
returns-in-Band c =
    let a = c.args in
    let low = c.in-Band.low in
    let high = c.in-Band.high in
    let share : c.unwrap_or-share.result ≡ get_or a.shares.now 0 0 = search rules in
    rw c.in-Band.is
    (c.start_band.ensures
    ∙ ap (λ (w : ℕ). start_rule c.wake.new.state a.first (Band low high) (w ∷ []) a.tapes.now a.work.now a.tally.now) share
    ∙ first_word c.wake.new.state a.first low high a.shares.now a.tapes.now a.work.now a.tally.now
    ∙ sym
    (begun_woken a.state.now a.n a.side a.pair a.first (Band low high) a.shares.now a.tapes.now a.work.now a.tally.now
    c.in_ok-wake.field-0 c.wake.new.state c.in_ok-wake.ensures))
