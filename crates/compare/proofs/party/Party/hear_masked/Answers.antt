use Rattle.std.proofs.Common.{◌≤◌, length, length-take-le, arith}
use Rattle.protocol.specs.Rounds.{round_words}
use Rattle.protocol.proofs.Line.{fewer}
use Rattle.compare.specs.Parties.{party_of}
use Rattle.compare.proofs.Heard.{levels_heard}
use Rattle.compare.proofs.party.Party.hear_masked.Goals as goal

pub close_products-requires-clause-from_line : goal.close_products-requires-clause-from_line
unfolding round_words
close_products-requires-clause-from_line c =
    let count = c.group_count-count.ensures in
    let room : c.group_count-count.result ≤ length c.args.work.now = omega (arith, count, c.requires.0) in
    rw (c.triples.ensures.width, length-take-le c.group_count-count.result c.args.work.now room) (fewer c.requires.1 _ (omega (arith, count)))

pub returns : goal.returns
returns c =
    let a = c.args in
    rw (c.group_count-count.ensures)
    (levels_heard (party_of a.self) a.incoming.now a.work.now c.close_products.new.lefts a.self.readable (omega (arith, c.requires.0))
    (rw (c.group_count-count.ensures, c.triples.ensures.words, c.triples.ensures.width, c.powers.ensures.words) at c.close_products.ensures))
