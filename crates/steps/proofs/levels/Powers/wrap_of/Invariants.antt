-- `steps::levels::Powers::wrap_of` meets its contract. The loop's invariant: total is the sum of the levels passed, modulo p.
use Rattle.std.proofs.Common.{List, ℕ, ◌+◌, ◌*◌, ◌<◌, ◌≤◌}
use Rattle.lists.specs.Tabulate.{sum}
use Rattle.field.specs.Width.{modulus}
use Rattle.field.specs.Congruence.{Cong}
use Rattle.protocol.specs.Levels.{level_match, level_opened}
use Rattle.steps.proofs.levels.Powers.wrap_of.Given as goal

-- the share of level i
abbrev pub level : ℕ → ℕ → List ℕ → List ℕ → List ℕ → ℕ → ℕ → ℕ
level n side powers work incoming test i = level_match n side (level_opened n work incoming (test * n + i)) powers (test * n + i)

abbrev pub invariant-loop-i : goal.invariant-loop-i
invariant-loop-i l =
    (l.i ≤ l.self.n.bits) × (l.total < modulus l.self.n.bits) × Cong (modulus l.self.n.bits) l.total (sum l.i (level l.self.n.bits l.side l.self.words.now l.work l.incoming l.test))
