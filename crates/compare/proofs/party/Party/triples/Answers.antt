use Rattle.std.proofs.Common.{arith}
use Rattle.compare.proofs.Sound.{sound}
use Rattle.compare.proofs.party.Party.triples.Goals as goal

pub invariant_of-result : goal.invariant_of-result
invariant_of-result c =
    let words = sound c.args.self.readable 2 (omega arith) c.section_of.result.now c.section_of.ensures in
    record { below = words.below }

pub returns-clause-long : goal.returns-clause-long
returns-clause-long c = (sound c.args.self.readable 2 (omega arith) c.section_of.result.now c.section_of.ensures).long
