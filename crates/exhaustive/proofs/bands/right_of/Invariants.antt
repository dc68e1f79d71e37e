-- `exhaustive::bands::right_of` meets its contract. The loop's invariant: the bounds passed that were right are counted, and on dealt tapes all were.
use Rattle.std.proofs.Common.{◌≡◌, ◌≤◌}
use Rattle.lists.specs.Tabulate.{sum}
use Rattle.field.specs.Width.{modulus}
use Rattle.exhaustive.specs.Bands.{bounds_at, band_right_at, TwoDealt}
use Rattle.exhaustive.proofs.bands.right_of.Given as goal

abbrev pub invariant-loop-i : goal.invariant-loop-i
invariant-loop-i l =
    record {
      value : l.right ≡ sum l.i (band_right_at (modulus l.n.bits) l.n.bits l.a1 l.a2 l.t1 l.t2);
      most : l.right ≤ l.i;
      dealt : TwoDealt l.n.bits l.t1 l.t2 → l.right ≡ sum l.i (bounds_at (modulus l.n.bits));
    }
