-- `tally::is_fresh` meets its contract: its mark is one of the tally's.
use Prim.Native.Nat.{ℕ}
use mathlib.Core.Path.{ap, ◌∙◌}
use mathlib.Core.List.{List, []}
use lib.ListN.{get_or}
use Rattle.tally.specs.Tally.{is_fresh}
use Rattle.tally.proofs.Bytes.{fresh_mark}
use Rattle.tally.proofs.is_fresh.Goals as goal

pub returns : goal.returns
returns c =
    c.all_ff.ensures
    ∙ ap (λ (marks : List (List ℕ)). is_fresh (get_or marks c.args.number []) 0) c.marks_in.ensures.value
    ∙ fresh_mark c.args.tally.now [] c.args.number c.requires
