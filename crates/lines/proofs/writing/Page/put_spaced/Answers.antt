use Rattle.std.proofs.Common.{arith, refl}
use Rattle.lines.specs.Writing.{spaced}
use Rattle.lines.proofs.Runs.{then}
use Rattle.lines.proofs.Spaced.{spaced_take}
use Rattle.lines.proofs.writing.Page.put_spaced.Goals as goal

pub loop-number-init : goal.loop-number-init
unfolding spaced
loop-number-init c = record { puts = record { out = refl; len = omega arith; whole = refl; same = refl }; most = omega arith }

pub loop-number-preserved : goal.loop-number-preserved
loop-number-preserved c =
    record {
      puts = rw (spaced_take c.args.numbers.now c.loop-number.number-index c.loop-number-test.true) (then (then c.loop-number.invariant.puts c.put.ensures) c.put_number.ensures.puts);
      most = omega arith;
    }
