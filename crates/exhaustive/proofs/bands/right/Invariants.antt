-- `exhaustive::bands::right` meets its contract: each turn adds what is counted on the tapes for it, all bounds.
use Rattle.std.proofs.Common.{◌≡◌, ◌*◌}
use Rattle.lists.specs.Tabulate.{sum}
use Rattle.field.specs.Width.{modulus}
use Rattle.exhaustive.specs.Bands.{bands_right_on, pairs_of_bounds}
use Rattle.exhaustive.proofs.bands.right.Given as goal

abbrev pub invariant-loop-i : goal.invariant-loop-i
invariant-loop-i l =
    record {
      value : l.right ≡ sum l.i (bands_right_on (modulus l.n.bits) l.n.bits);
      all : l.right ≡ l.i * pairs_of_bounds (modulus l.n.bits);
    }
