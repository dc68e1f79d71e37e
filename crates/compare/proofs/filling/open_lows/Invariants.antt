-- The words passed stand in their places.
use Rattle.lists.proofs.Stores.{StoredDown}
use Rattle.tape.specs.Layout.{square_count}
use Rattle.protocol.specs.Filling.{low_word}
use Rattle.compare.proofs.filling.open_lows.Given as goal

abbrev pub invariant-loop-j : goal.invariant-loop-j
invariant-loop-j l =
    StoredDown l.initial.out (square_count l.triples.n.bits) l.from 6 (low_word l.triples.n.bits l.side l.low l.triples.words.now) l.out l.j
