use Rattle.vectors.proofs.Deals.{deal_refused, deal_compared}
use Rattle.vectors.proofs.deal.dealt_same.Goals as goal

pub returns-in_err-ok : goal.returns-in_err-ok
returns-in_err-ok c =
    let n = c.in_ok-width.ensures in
    rw (
      c.from_residual-in_err-ok.ensures,
      deal_refused _ c.args.deal _ _ c.deal.new.t1 c.deal.new.t2 c.deal.result _ n.bits n.listed
          c.tape_room-t1.ensures.long c.tape_room-t2.ensures.long c.deal.ensures c.in_err-ok.ensures.variant,
    )

pub returns : goal.returns
returns c =
    let n = c.in_ok-width.ensures in
    deal_compared _ c.args.deal _ _ c.deal.new.t1 c.deal.new.t2 c.deal.result _ n.bits n.listed
    c.tape_room-t1.ensures.long c.tape_room-t2.ensures.long c.deal.ensures _ c.both_same.result c.in_ok-ok.ensures.variant c.both_same.ensures
