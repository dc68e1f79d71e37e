-- `exchange::less` meets its contract: the first refusal comes back, and otherwise both boxes are ready and the answers are opened.
use Rattle.std.proofs.Common.{◌≡◌, Err, refl, ap, rules}
use Rattle.rules.proofs.Ranges.{ranged}
use Rattle.rules.specs.declared.state.State.{State}
use Rattle.exchange.specs.Jobs.{Lent, lent}
use Rattle.exchange.proofs.Begun.{Begun, begin_ready}
use Rattle.exchange.proofs.Right.{ended_right}
use Rattle.exchange.proofs.Endings.{ends_at_box1, ends_at_box2, ends_opened}
use Rattle.exchange.proofs.less.Goals.{Start, In_ok-begin-2}
use Rattle.exchange.proofs.less.Goals as goal

-- what the two boxes come with
abbrev lent1 : Start → Lent
lent1 s = let v = s.args in lent v.jobs.box1.now v.t1.now v.w1.now v.k1.now v.o1.now

abbrev lent2 : Start → Lent
lent2 s = let v = s.args in lent v.jobs.box2.now v.t2.now v.w2.now v.k2.now v.o2.now

-- where neither box is refused
ready1 : (e : In_ok-begin-2)
    → let v = e.args in
    Begun v.jobs.n 1 v.jobs.pair v.jobs.first v.jobs.task v.jobs.box1.now v.t1.now v.w1.now v.k1.now e.begin.new.state
ready1 e =
    let v = e.args in
    begin_ready v.jobs.n 1 v.jobs.pair v.jobs.first v.jobs.task v.jobs.box1.now v.t1.now v.w1.now v.k1.now
    _ e.begin.new.state _ e.in_ok-begin.ensures refl

ready2 : (e : In_ok-begin-2)
    → let v = e.args in
    Begun v.jobs.n 2 v.jobs.pair v.jobs.first v.jobs.task v.jobs.box2.now v.t2.now v.w2.now v.k2.now e.begin-2.new.state
ready2 e =
    let v = e.args in
    begin_ready v.jobs.n 2 v.jobs.pair v.jobs.first v.jobs.task v.jobs.box2.now v.t2.now v.w2.now v.k2.now
    _ e.begin-2.new.state _ e.in_ok-begin-2.ensures refl

pub returns-in_err-begin : goal.returns-in_err-begin
returns-in_err-begin c =
    let s = (goal.at.returns-in_err-begin c).Start in
    let v = s.args in
    let same : c.from_residual.result ≡ Err c.in_err-begin.field-0.0 = search rules in
    let end = ends_at_box1 v.jobs.n v.jobs.pair v.jobs.first v.jobs.task (lent1 s) (lent2 s) c.in_err-begin.field-0.0 _ _ c.in_err-begin.ensures in
    rw same
    (record {
      ended = end;
      right = ended_right v.jobs.n v.jobs.pair v.jobs.first v.jobs.task (lent1 s) (lent2 s) (Err c.in_err-begin.field-0.0) _ _ end;
    })

pub returns-in_err-begin-2 : goal.returns-in_err-begin-2
returns-in_err-begin-2 c =
    let s = (goal.at.returns-in_err-begin-2 c).Start in
    let v = s.args in
    let same : c.from_residual-in_err-begin-2.result ≡ Err c.in_err-begin-2.field-0.0 = search rules in
    let end =
    ends_at_box2 v.jobs.n v.jobs.pair v.jobs.first v.jobs.task (lent1 s) (lent2 s) _ _ c.in_ok-begin.ensures
    c.in_err-begin-2.field-0.0 _ _ c.in_err-begin-2.ensures in
    rw same
    (record {
      ended = end;
      right = ended_right v.jobs.n v.jobs.pair v.jobs.first v.jobs.task (lent1 s) (lent2 s) (Err c.in_err-begin-2.field-0.0) _ _ end;
    })

pub invariant_of-n : goal.invariant_of-n
invariant_of-n c =
    let box1 = ready1 (goal.at.invariant_of-n c).In_ok-begin-2 in
    record { listed = rw box1.state at (ranged c.begin.new.state box1.ready.ranged).width }

pub opened-requires : goal.opened-requires
opened-requires c =
    let e = (goal.at.opened-requires c).In_ok-begin-2 in
    let box1 = ready1 e in
    let box2 = ready2 e in
    record {
      ready = (box1.ready, box2.ready);
      width = (ap (λ (b : State). b.n) box1.state, ap (λ (b : State). b.n) box2.state);
      task = (ap (λ (b : State). b.batch.task) box1.state, ap (λ (b : State). b.batch.task) box2.state);
    }

pub returns : goal.returns
returns c =
    let s = (goal.at.returns c).Start in
    let v = s.args in
    let end =
    ends_opened v.jobs.n v.jobs.pair v.jobs.first v.jobs.task (lent1 s) (lent2 s) _ _ c.in_ok-begin.ensures _ _ c.in_ok-begin-2.ensures
    c.opened.result c.opened.ensures.0 c.opened.ensures.1 in
    record { ended = end; right = ended_right v.jobs.n v.jobs.pair v.jobs.first v.jobs.task (lent1 s) (lent2 s) c.opened.result _ _ end }
