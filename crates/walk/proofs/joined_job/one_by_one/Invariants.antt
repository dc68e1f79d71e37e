-- `walk::joined_job::one_by_one` meets its contract: each turn takes one more job to its end.
use Rattle.walk.specs.Three.{Done}
use Rattle.walk.proofs.joined_job.one_by_one.Given as goal

abbrev pub invariant-loop-earlier : goal.invariant-loop-earlier
invariant-loop-earlier l = Done l.earlier l.pair
