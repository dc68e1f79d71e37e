-- `walk::progress::Pair::walk` meets its contract: each turn takes one step.
use Rattle.walk.specs.Courses.{asked_of, Course}
use Rattle.walk.proofs.progress.Pair.walk.Given as goal

abbrev pub invariant-loop-earlier : goal.invariant-loop-earlier
invariant-loop-earlier l = Course (asked_of l.job) l.initial.self l.earlier l.self
