-- `field::width::all_below` meets its contract: what is kept is the test of the words read so far.
use Rattle.std.proofs.Common.{◌≡◌, ltb, get_or}
use Rattle.lists.specs.Every.{every}
use Rattle.field.proofs.width.all_below.Given as goal

abbrev pub invariant-loop-word : goal.invariant-loop-word
invariant-loop-word l = l.all ≡ every l.word-index (λ k. ltb (get_or l.words k 0) l.bound)
