-- Where no message of a larger width is lent, a list that meets the premises meets them with all valid tapes and any shares in range.
use Rattle.guarantees.specs.Comparison.{world_of, setting_of}
use Rattle.guarantees.specs.AnyTapes.{AnyTapes}
use Rattle.guarantees.proofs.Fitting.{fitting_first}
use Rattle.guarantees.proofs.First.{first_again, low_first, orders}
use Rattle.guarantees.proofs.Schedule.{lasts}

pub any_tapes : AnyTapes
any_tapes c b shares shares' e narrow own valid w =
    let l =
    lasts (setting_of c b e.own shares e.loose) (setting_of c b own shares' w) c.pair (orders c b e.own e.valid) (orders c b own valid)
    c.entries 0 (world_of c e.loose) (world_of c w)
    (record { low = low_first c e.loose w; fits = fitting_first; fits' = fitting_first })
    e.premises.compatible e.premises.meets narrow in
    (record { asleep = first_again c e.loose w e.premises.asleep; meets = l.meets; compatible = l.compatible }, l.narrow)
