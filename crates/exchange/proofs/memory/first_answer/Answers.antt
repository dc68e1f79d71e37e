-- `exchange::memory::first_answer` meets its contract: the refusal is the job's, and the answer its first.
use Rattle.std.proofs.Common.{◌≡◌, Err, ap, rules}
use lib.ListN.{get_or}
use Rattle.exchange.specs.Jobs.{Ended}
use Rattle.exchange.proofs.memory.first_answer.Goals as goal

pub returns-in_err-first : goal.returns-in_err-first
returns-in_err-first c =
    let same : c.from_residual.result ≡ Err c.in_err-first.field-0.0 = search rules in
    let all = rw c.in_err-first.was at c.less.ensures.ended in
    rw same (record { refusal = ap (λ (j : Ended). j.refusal) all; answer = ap (λ (j : Ended). get_or j.bits 0 0) all })

pub returns : goal.returns
returns c =
    let all = rw c.in_ok-first.was at c.less.ensures.ended in
    record { refusal = ap (λ (j : Ended). j.refusal) all; answer = ap (λ (j : Ended). get_or j.bits 0 0) all }
