use Rattle.std.proofs.Common.{ℕ, ◌-◌, ◌+◌, List, ap, ◌∙◌, arith}
use Rattle.std.proofs.lemmas.List.Edits.{sets}
use Rattle.lists.proofs.Parts.{put_whole}
use Rattle.compare.proofs.hearing.keep.Goals as goal

pub returns : goal.returns
returns c =
    let a = c.args in
    let e = c.copy_from_slice.ensures in
    put_whole a.at (a.at + 3 - a.at) a.work.now c.copy_from_slice.new.self e.len (omega (arith, c.well_formed, e))
    ∙ ap (λ (ws : List ℕ). sets a.work.now a.at ws) e.after
