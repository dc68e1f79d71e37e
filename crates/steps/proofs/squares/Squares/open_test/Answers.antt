use Rattle.std.proofs.Common.{ℕ, ◌≡◌, ◌+◌, ◌-◌, ◌*◌, ◌≤◌, List, ap, ◌∙◌, mul-le-mul_right, arith}
use Rattle.std.proofs.Common.{rules}
use Rattle.std.proofs.lemmas.List.Edits.{sets}
use Rattle.lists.specs.Span.{span, later}
use Rattle.steps.proofs.Groups.{turn_down}
use Rattle.steps.proofs.squares.Squares.open_test.Invariants.{word}
use Rattle.steps.proofs.squares.Squares.open_test.Goals as goal

pub loop-level-preserved : goal.loop-level-preserved
loop-level-preserved c =
    let a = c.args in
    let n = a.self.n.bits in
    let f = word n a.side a.doubled a.self.words.now in
    let end = (a.test + 1) * (n * n) in
    let g = a.test * n + (c.loop-level.level - 1) in
    let next : a.test * n + c.loop-level.level ≡ g + 1 = omega (arith, c.loop-level-test.true) in
    let within : (a.test * n + c.loop-level.level) * n ≤ end = omega (arith, mul-le-mul_right n c.loop-level.invariant.0) in (
      omega (arith, c.loop-level.invariant.0),
      search rules,
      c.open_group.ensures
          ∙ ap (λ (m : List ℕ). sets m (later (g * n) a.from) (span (later (g * n) a.from) ((g + 1) * n) f))
          (c.loop-level.invariant.2 ∙ ap (λ (b : ℕ). sets a.out.now (later (b * n) a.from) (span (later (b * n) a.from) end f)) next)
          ∙ turn_down a.out.now n g a.from end f (rw next at within),
    )
