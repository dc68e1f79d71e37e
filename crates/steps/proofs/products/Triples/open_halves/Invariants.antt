-- `steps::products::Triples::open_halves` meets its contract. The loop's invariant: the words passed stand in their places.
use Rattle.std.proofs.Common.{get_or}
use Rattle.lists.proofs.Stores.{Stored}
use Rattle.protocol.specs.Answer.{half_opening}
use Rattle.steps.proofs.products.Triples.open_halves.Given as goal

abbrev pub invariant-loop-k : goal.invariant-loop-k
invariant-loop-k l = Stored l.initial.out 0 3 (half_opening l.self.n.bits (λ i. get_or l.v i 0) l.self.words.now) l.out l.k
