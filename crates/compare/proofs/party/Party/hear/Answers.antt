-- Round by round.
use Rattle.std.proofs.Common.{Some, sym, ap}
use Rattle.protocol.specs.Rounds.{after_hearing, share_after}
use Rattle.protocol.proofs.ByRound.{no_share, no_hearing}
use Rattle.compare.specs.Parties.{party_of}
use Rattle.compare.proofs.party.Party.hear.Goals as goal

pub returns-in-5-clause-value : goal.returns-in-5-clause-value
unfolding share_after after_hearing
returns-in-5-clause-value c = (rw c.in-5.is (ap Some c.answer.ensures.value), rw c.in-5.is)

pub returns-in_default-clause-value : goal.returns-in_default-clause-value
returns-in_default-clause-value c =
    let a = c.args in
    let b = party_of a.self in (
      sym (no_share a.round c.in_default.in_default-own.rest b a.work.now a.incoming.now),
      sym (no_hearing a.round c.in_default.in_default-own.rest b a.work.now a.incoming.now),
    )
