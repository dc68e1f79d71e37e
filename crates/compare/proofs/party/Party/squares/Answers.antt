use Rattle.std.proofs.Common.{arith}
use Rattle.compare.proofs.Sound.{sound}
use Rattle.compare.proofs.party.Party.squares.Goals as goal

pub invariant_of-result : goal.invariant_of-result
invariant_of-result c =
    let words = sound c.args.self.readable 0 (omega arith) c.section_of.result.now c.section_of.ensures in
    record { below = words.below; long = omega (arith, words.long) }
