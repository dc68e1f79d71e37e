-- `exhaustive::inputs::right_of` meets its contract. The loop's invariant: the inputs passed that were right are counted, and on dealt tapes all were.
use Rattle.std.proofs.Common.{◌≡◌, ◌≤◌}
use Rattle.lists.specs.Tabulate.{sum}
use Rattle.field.specs.Width.{modulus}
use Rattle.tape.specs.Dealt.{Dealt}
use Rattle.exhaustive.specs.Inputs.{right_at}
use Rattle.exhaustive.proofs.inputs.right_of.Given as goal

abbrev pub invariant-loop-i : goal.invariant-loop-i
invariant-loop-i l =
    record {
      value : l.right ≡ sum l.i (right_at (modulus l.n.bits) l.n.bits l.x1 l.x2 l.t1 l.t2);
      most : l.right ≤ l.i;
      dealt : Dealt l.n.bits 7 0 l.t1 l.t2 → l.right ≡ l.i;
    }
