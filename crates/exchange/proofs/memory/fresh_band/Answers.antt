-- `exchange::memory::fresh_band` meets its contract: what it lends is blank.
use Rattle.exchange.specs.Memory.{fresh_band}
use Rattle.exchange.proofs.memory.fresh_band.Goals as goal

pub returns : goal.returns
unfolding fresh_band
returns c =
    let band =
    rw (
      c.blank_works-w1.ensures.1,
      c.blank_works-w2.ensures.1,
      c.blank_messages-o1.ensures.1,
      c.blank_messages-o2.ensures.1,
    )
    at c.first_answer.ensures in
    record { refusal = band.refusal; less = band.answer }
