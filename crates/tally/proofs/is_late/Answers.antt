-- `tally::is_late` meets its contract.
use Prim.Native.Nat.{ℕ, ◌+◌}
use mathlib.Core.Path.{sym, ap, ◌∙◌}
use mathlib.Core.Bool.{Bool, not}
use mathlib.Core.List.{List, reverse}
use lib.ListN.{length, drop}
use native.Mathlib.Omega.{arith}
use Rattle.std.specs.List.{between, list_any}
use Rattle.std.proofs.lemmas.Slice.{between_to_end}
use Rattle.std.proofs.lemmas.List.Sorted.{list_any-IsPermutation, IsPermutation-reverse}
use Rattle.tally.specs.Tally.{is_fresh}
use Rattle.tally.proofs.Bytes.{spent_above}
use Rattle.tally.proofs.is_late.Goals as goal

pub returns : goal.returns
returns c =
    let spent : List ℕ → Bool = λ mark. not (is_fresh mark 0) in
    let marks = c.marks_in.result.now in
    let above = between (c.args.number + 1) (length marks) marks in
    c.any_spent.ensures
    ∙ sym (list_any-IsPermutation spent above (reverse above) (IsPermutation-reverse above))
    ∙ ap (list_any spent) (between_to_end marks (c.args.number + 1) (length marks) (omega arith) ∙ ap (drop (c.args.number + 1)) c.marks_in.ensures.value)
    ∙ spent_above c.args.tally.now c.args.number
