-- `steps::products::Triples::close_products` meets its contract. The loop's invariant: the shares of the products passed stand in their places.
use Rattle.std.proofs.Common.{length, ℕ, ◌+◌, ◌*◌, ◌%◌, List, get_or}
use Rattle.lists.proofs.Stores.{Stored}
use Rattle.field.specs.Width.{modulus}
use Rattle.protocol.specs.Products.{closed}
use Rattle.steps.proofs.products.Triples.close_products.Given as goal

-- the share of product i
abbrev pub share : ℕ → ℕ → List ℕ → List ℕ → ℕ → List ℕ → ℕ → List ℕ → ℕ → ℕ → ℕ
share n side lefts rights stride triples first incoming from i =
    closed n side (get_or lefts i 0 % modulus n) (get_or rights (i * stride) 0 % modulus n) triples (first + i) incoming (from + i * 2)

abbrev pub invariant-loop-i : goal.invariant-loop-i
invariant-loop-i l =
    Stored l.initial.lefts 0 (length l.initial.lefts) (share l.self.n.bits l.side l.initial.lefts l.rights l.stride l.self.words.now l.first l.incoming l.from) l.lefts l.i
