-- The zeros of a job that agrees fit a word.
use Rattle.std.proofs.Common.{arith}
use Rattle.vectors.proofs.Sent.{agreeing_small}
use Rattle.vectors.proofs.run_width.Goals.{in_default, in-Some+in_ok-print}
use Rattle.vectors.proofs.run_width.Goals as goal

pub overflow_add-zeros : goal.overflow_add-zeros
overflow_add-zeros g c = omega (arith, agreeing_small c.in-Some.ensures.0, c.loop-k.invariant, c.loop-k-test.true)

pub loop-k-preserved : goal.loop-k-preserved
loop-k-preserved g c =
    elim c.match-compared_with.branch [
      | in-Some+in_ok-print w ↦ omega (arith, agreeing_small w.in-Some.ensures.0, c.loop-k.invariant, w)
      | in_default w ↦ omega (arith, w)
    ]
