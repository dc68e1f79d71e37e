-- `steps::levels::Powers::level_match` meets its contract. The loop's invariant: the terms still to come and total · d^(k + 1) add up to all terms, modulo p.
use Rattle.std.proofs.Common.{List, ℕ, ◌+◌, ◌*◌, ◌^◌, ◌<◌, ◌≤◌}
use Rattle.lists.specs.Tabulate.{sum}
use Rattle.field.specs.Width.{modulus}
use Rattle.field.specs.Congruence.{Cong}
use Rattle.tape.specs.Letters.{group_power}
use Rattle.encoding.specs.Polynomial.{coefficient}
use Rattle.steps.proofs.levels.Powers.level_match.Given as goal

-- the term of the power k + 1
abbrev pub term : ℕ → ℕ → List ℕ → ℕ → ℕ → ℕ
term n d powers g k = coefficient n (k + 1) * (d ^ (k + 1) * group_power n powers g (k + 1))

abbrev pub invariant-loop-k : goal.invariant-loop-k
invariant-loop-k l =
    (l.k ≤ l.self.n.bits)
    × (l.total < 2 * modulus l.self.n.bits)
    × Cong (modulus l.self.n.bits) (sum l.k (term l.self.n.bits l.d l.self.words.now l.g) + l.total * l.d ^ (l.k + 1)) (sum l.self.n.bits (term l.self.n.bits l.d l.self.words.now l.g))
