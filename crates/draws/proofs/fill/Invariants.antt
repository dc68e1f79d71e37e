-- `draws::fill` meets its contract: each turn draws and stores one word.
use Prim.Native.Nat.{suc}
use mathlib.Core.Path.{◌≡◌}
use lib.ListN.{length}
use Rattle.lists.proofs.Stores.{Stored}
use Rattle.draws.specs.Draws.{draw, word}
use Rattle.draws.proofs.fill.Given as goal

abbrev pub invariant-loop-word : goal.invariant-loop-word
invariant-loop-word l =
    (l.last ≡ draw l.v l.word-index) × Stored l.initial.words 0 (length l.initial.words) (λ j. word l.n.bits l.v (suc j)) l.words l.word-index
