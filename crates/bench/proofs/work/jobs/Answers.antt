-- `bench::work::jobs` meets its contract: the chain goes over the turns, and counts those that its closure says are right.
use mathlib.Core.Bool.{true}
use mathlib.Core.Path.{◌∙◌}
use native.Mathlib.Omega.{arith}
use Rattle.std.proofs.Common.{rules, tests}
use Rattle.std.proofs.lemmas.Iterator.{YieldsList-from_range}
use Rattle.std.proofs.lemmas.Iterator.Consumers.{count_from_yields_List, YieldsList-from_filter, YieldsList-at}
use Rattle.bench.specs.Work.{is_right}
use Rattle.bench.proofs.Turns.{turns_right, turns_alike}
use Rattle.bench.proofs.work.jobs.Goals as goal

pub returns : goal.returns
returns c =
    let a = c.args in
    let turns = YieldsList-at c.filter.ensures.source (YieldsList-from_range 0 a.count a.count (cc) (omega arith)) in
    record {
      value =
          count_from_yields_List c.filter.result c.count.result c.count.ensures.ran
          (YieldsList-from_filter _ (is_right a.n.bits a.t1.now a.t2.now) turns c.filter.ensures.closure (λ x r q k. search (rules, tests)))
          ∙ turns_right (is_right a.n.bits a.t1.now a.t2.now) a.count;
      dealt = λ m.
          count_from_yields_List c.filter.result c.count.result c.count.ensures.ran
          (YieldsList-from_filter _ (λ _. true) turns c.filter.ensures.closure (λ x r q k. search (rules, tests)))
          ∙ turns_alike true a.count
          ∙ omega arith;
    }
