-- `exchange::memory::fresh_job` meets its contract: what it lends is blank.
use Rattle.exchange.specs.Memory.{fresh_job}
use Rattle.exchange.proofs.memory.fresh_job.Goals as goal

pub returns : goal.returns
unfolding fresh_job
returns c =
    let job =
    rw (
      c.blank_work-w1.ensures.1,
      c.blank_work-w2.ensures.1,
      c.blank_words-o1.ensures.1,
      c.blank_words-o2.ensures.1,
      c.list.ensures,
      c.list-2.ensures,
    )
    at c.first_answer.ensures in
    record { refusal = job.refusal; less = job.answer }
