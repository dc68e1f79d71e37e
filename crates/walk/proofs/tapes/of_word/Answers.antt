-- `walk::tapes::of_word` meets its contract: the last seven words are written over.
use Rattle.std.proofs.Common.{◌-◌, length, drop, replicate, ◌∙◌, arith}
use Rattle.std.proofs.Math.ListN.{drop_of_length-le}
use Rattle.std.proofs.lemmas.List.{append-nil, length-drop, take-replicate}
use Rattle.walk.proofs.tapes.of_word.Goals as goal

pub returns : goal.returns
returns g c =
    let a = g.row.N - 7 in
    let l = replicate g.row.N c.args.word in
    let trailer = c.copy_from_slice.ensures.after ∙ c.trailer_of.ensures in
    rw (take-replicate a g.row.N c.args.word (omega arith), drop_of_length-le (drop a l) {i = length l - a} (omega (arith, length-drop a l)), append-nil, trailer)
