-- `deals::kinds::Kind::words` meets its contract: so many groups of so many words, within a tape, so the product does not wrap.
use Prim.Native.Nat.{ℕ, ◌*◌}
use mathlib.Core.Path.{◌≡◌, ap₂}
use native.Mathlib.Omega.{arith}
use Rattle.tape.proofs.Sizes.{small}
use Rattle.deals.specs.Deals.{kind_length}
use Rattle.deals.specs.Kinds.{number_of}
use Rattle.deals.proofs.Places.{stands}
use Rattle.deals.proofs.ByKind.{few}
use Rattle.deals.proofs.kinds.Kind.words.Goals as goal

pub overflow_mul-result : goal.overflow_mul-result
overflow_mul-result c =
    let kind = number_of c.args.self in
    let product : c.group_count.result * c.group_words.result ≡ kind_length c.args.n.bits kind =
    ap₂ (λ (count words : ℕ). count * words) c.group_count.ensures c.group_words.ensures in
    record { fits = omega (arith, product, stands c.args.n.bits kind (few c.args.self), small c.args.n.listed) }
