-- `exhaustive::inputs::right` meets its contract: each turn adds what is counted on the tapes for it, p * p.
use Rattle.std.proofs.Common.{◌≡◌, ◌*◌}
use Rattle.lists.specs.Tabulate.{sum}
use Rattle.field.specs.Width.{modulus}
use Rattle.exhaustive.specs.Inputs.{right_on}
use Rattle.exhaustive.proofs.inputs.right.Given as goal

abbrev pub invariant-loop-i : goal.invariant-loop-i
invariant-loop-i l =
    record {
      value : l.right ≡ sum l.i (right_on l.fn.source (modulus l.n.bits) l.n.bits);
      all : l.right ≡ l.i * (modulus l.n.bits * modulus l.n.bits);
    }
