-- `bench::work::checks` meets its contract: each turn finds the same.
use Prim.Native.Nat.{ℕ, ◌*◌}
use mathlib.Core.Path.{◌≡◌, ◌∙◌}
use native.Mathlib.Omega.{arith}
use mathlib.Core.List.{List}
use Rattle.std.proofs.Common.{rules, tests}
use Rattle.std.proofs.lemmas.Iterator.{YieldsList-from_range}
use Rattle.std.proofs.lemmas.Iterator.Consumers.{count_from_yields_List, YieldsList-from_filter, YieldsList-at}
use Rattle.lists.proofs.Tests.{and_both}
use Rattle.shares.specs.Side.{other}
use Rattle.tape.specs.Dealt.{Dealt}
use Rattle.encoding.specs.Matching.{indicator}
use Rattle.bench.specs.Work.{both_in_order}
use Rattle.bench.proofs.Turns.{turns_alike}
use Rattle.bench.proofs.work.checks.Goals as goal

-- dealt tapes are in order
all_in_order : (n count : ℕ) {t1 t2 : List ℕ} → Dealt n 1 0 t1 t2 → count * indicator (both_in_order n t1 t2) ≡ count
unfolding other
all_in_order n count m = rw (and_both m.own_order m.others_order) (omega arith)

pub returns : goal.returns
returns c =
    let a = c.args in
    let turns = YieldsList-at c.filter.ensures.source (YieldsList-from_range 0 a.count a.count (cc) (omega arith)) in
    let found = both_in_order a.n a.t1.now a.t2.now in
    let counted =
    count_from_yields_List c.filter.result c.count.result c.count.ensures.ran
    (YieldsList-from_filter _ (λ _. found) turns c.filter.ensures.closure (λ x r q k. search (rules, tests)))
    ∙ turns_alike found a.count in
    record { value = counted; dealt = λ m. counted ∙ all_in_order a.n a.count m }
