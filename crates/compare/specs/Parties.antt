-- What a box has of a job, as the protocol knows it.
use Rattle.protocol.specs.Products.{party}
use Rattle.compare.specs.declared.party.Party.{Party}

abbrev pub party_of : Party → Rattle.protocol.specs.Products.Party
party_of b = party b.n.bits b.side b.x b.y b.tape.now
