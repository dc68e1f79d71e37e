-- `steps::products::Triples::open_products` meets its contract. The loop's invariant: the words of the products passed stand in their places.
use Rattle.std.proofs.Common.{List, ◌≡◌, ℕ, ◌+◌, ◌*◌, ◌%◌, ◌≤◌, length, get_or}
use Rattle.std.proofs.lemmas.List.Edits.{sets}
use Rattle.lists.specs.Tabulate.{tabulate}
use Rattle.field.specs.Width.{modulus}
use Rattle.shares.specs.Share.{masked}
use Rattle.tape.specs.Letters.{triple_left, triple_right}
use Rattle.protocol.specs.Products.{alternating}
use Rattle.steps.proofs.products.Triples.open_products.Given as goal

-- e and f of product k
abbrev pub left : ℕ → List ℕ → List ℕ → ℕ → ℕ → ℕ
left n lefts triples first k = masked n (get_or lefts k 0 % modulus n) (triple_left triples (first + k))

abbrev pub right : ℕ → List ℕ → ℕ → List ℕ → ℕ → ℕ → ℕ
right n rights stride triples first k = masked n (get_or rights (k * stride) 0 % modulus n) (triple_right triples (first + k))

abbrev pub invariant-loop-i : goal.invariant-loop-i
invariant-loop-i l =
    (l.i ≤ length l.lefts) × (length l.out ≡ length l.initial.out) × (l.out ≡ sets l.initial.out l.at (tabulate (l.i * 2) (alternating (left l.self.n.bits l.lefts l.self.words.now l.first) (right l.self.n.bits l.rights l.stride l.self.words.now l.first))))
