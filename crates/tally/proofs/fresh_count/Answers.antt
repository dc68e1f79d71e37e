-- `tally::fresh_count` meets its contract.
use Prim.Native.Nat.{ℕ}
use mathlib.Core.Path.{◌≡◌, ap, ◌∙◌}
use mathlib.Core.List.{List}
use native.Mathlib.Omega.{arith}
use lib.ListN.{length}
use Rattle.std.proofs.Common.{rules}
use Rattle.std.proofs.iter.runs.Made.{chains}
use Rattle.std.proofs.lemmas.List.Sums.{count_by-le-length}
use Rattle.std.specs.List.{count_by}
use Rattle.tally.specs.Tally.{is_fresh}
use Rattle.tally.proofs.Marks.{tally_most, tapes_most}
use Rattle.tally.proofs.Bytes.{fresh_marks}
use Rattle.tally.proofs.fresh_count.Goals.{After-count}
use Rattle.tally.proofs.fresh_count.Goals as goal

counted : (s : After-count) → s.count.result ≡ count_by (λ (mark : List ℕ). is_fresh mark 0) s.marks_in.result.now
counted s = search (rules, chains)

pub overflow_cast-result : goal.overflow_cast-result
overflow_cast-result c =
    let len = length c.args.tally.now in
    let most = count_by-le-length (λ (mark : List ℕ). is_fresh mark 0) c.marks_in.result.now in
    omega (arith, counted c, most, c.marks_in.ensures.long, tapes_most len, tally_most len c.requires)

pub returns : goal.returns
returns c = counted c ∙ ap (count_by (λ (mark : List ℕ). is_fresh mark 0)) c.marks_in.ensures.value ∙ fresh_marks c.args.tally.now
