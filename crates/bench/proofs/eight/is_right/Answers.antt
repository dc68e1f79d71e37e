-- `bench::eight::is_right` meets its contract: what came of the job is looked at, and on dealt tapes that the tallies have next it goes.
use Rattle.std.proofs.Common.{◌≡◌, Ok, Err, length, rules, sym, ap, ◌∙◌}
use Rattle.exchange.specs.Jobs.{Ended, ended}
use Rattle.bench.specs.Eight.{Next}
use Rattle.bench.proofs.Runs.{job, came_right, all_right, spent_next1, spent_next2, not_refused}
use Rattle.bench.proofs.eight.is_right.Goals.{Start}
use Rattle.bench.proofs.eight.is_right.Goals as goal

module _ (s : Start) where
  -- the job that is done
  abbrev done : Ended
  done =
      let v = s.args in
      let m = v.memory.now in
      job v.n.bits v.jobs.first v.jobs.task v.jobs.box1.now v.jobs.box2.now v.t1.now v.t2.now m.w1 m.w2 v.k1.now v.k2.now m.o1 m.o2

  abbrev IsNext : Type 0
  IsNext = let v = s.args in Next v.n.bits v.jobs.first v.jobs.task v.t1.now v.t2.now v.k1.now v.k2.now

  -- the memory's lengths
  work1 : length s.args.memory.now.w1 ≡ 3488
  work1 = search rules

  work2 : length s.args.memory.now.w2 ≡ 3488
  work2 = search rules

  out1 : length s.args.memory.now.o1 ≡ 23112
  out1 = search rules

  out2 : length s.args.memory.now.o2 ≡ 23112
  out2 = search rules

pub returns-in-Ok-clause-right : goal.returns-in-Ok-clause-right
returns-in-Ok-clause-right c = λ all.
    came_right _ _ _ _ _ _ _ _ _ _ _ _ _ c.in-Ok.bits _ _ (rw (c.requires.0, c.requires.1) at c.in-Ok.ensures.ended) (sym c.all_ordinary.ensures ∙ all)

pub returns-in-Ok-clause-dealt : goal.returns-in-Ok-clause-dealt
returns-in-Ok-clause-dealt c = λ d.
    let s = (goal.at.returns-in-Ok-clause-dealt c).Start in
    let r = c.requires in
    let e : ended (Ok c.in-Ok.bits) c.less.new.k1 c.less.new.k2 ≡ done s = rw (r.0, r.1) at c.in-Ok.ensures.ended in (
      c.all_ordinary.ensures
          ∙ all_right _ _ _ _ _ _ _ _ _ _ _ _ _ d r.3 r.4 (work1 s) (work2 s) (out1 s) (out2 s) c.in-Ok.bits (rw (r.0, r.1) at c.in-Ok.ensures.right),
      spent_next1 _ _ _ _ _ _ _ _ _ _ _ _ _ d r.3 r.4 (work1 s) (work2 s) (out1 s) (out2 s) c.less.new.k1 (ap (λ (j : Ended). j.tally1) e),
      spent_next2 _ _ _ _ _ _ _ _ _ _ _ _ _ d r.3 r.4 (work1 s) (work2 s) (out1 s) (out2 s) c.less.new.k2 (ap (λ (j : Ended). j.tally2) e),
    )

pub returns-in-Err-clause-dealt : goal.returns-in-Err-clause-dealt
returns-in-Err-clause-dealt c = λ d.
    let s = (goal.at.returns-in-Err-clause-dealt c).Start in
    let r = c.requires in
    let e : ended (Err c.in-Err.field-0) c.less.new.k1 c.less.new.k2 ≡ done s = rw (r.0, r.1) at c.in-Err.ensures.ended in
    absurd (not_refused _ _ _ _ _ _ _ _ _ _ _ _ _ d r.3 r.4 (work1 s) (work2 s) (out1 s) (out2 s) c.in-Err.field-0 _ _ e)
