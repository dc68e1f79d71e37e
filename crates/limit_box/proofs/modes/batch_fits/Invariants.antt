-- `limit_box::modes::batch_fits` meets its contract. The loop's invariant: the jobs passed fit.
use Rattle.std.proofs.Common.{◌≡◌, ◌+◌, true, ◌&&◌, ltb, get_or}
use Rattle.lists.specs.Every.{every}
use Rattle.field.specs.Width.{modulus}
use Rattle.tally.specs.Tally.{tapes_of}
use Rattle.limit_box.proofs.modes.batch_fits.Given as goal

abbrev pub invariant-loop-i : goal.invariant-loop-i
invariant-loop-i l =
    every l.i (λ k. ltb (l.batch.first + k) (tapes_of l.tally) && ltb (get_or l.batch.x k 0) (modulus l.n.bits) && ltb (get_or l.batch.y k 0) (modulus l.n.bits)) ≡ true
