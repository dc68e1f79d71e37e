use Rattle.std.proofs.Common.{ℕ, ◌≡◌, ◌+◌, ◌-◌, ◌*◌, ◌≤◌, List, ap, ◌∙◌, get_or, mul-le-mul_right, arith, rules}
use Rattle.std.proofs.lemmas.List.Edits.{sets}
use Rattle.lists.specs.Span.{span, later}
use Rattle.lists.proofs.Span.{span_same}
use Rattle.tape.specs.Layout.{square_count}
use Rattle.protocol.specs.Squares.{square_opening}
use Rattle.steps.proofs.Groups.{one_test, turn_down}
use Rattle.steps.proofs.squares.Squares.open.Invariants.{word}
use Rattle.steps.proofs.squares.Squares.open.Goals as goal

-- a test's words are of all tests' words
test_words : (n side : ℕ) (d : ℕ → ℕ) (squares : List ℕ) (test from : ℕ)
    → span (later (test * (n * n)) from) ((test + 1) * (n * n)) (word n side (λ t. d test) squares)
    ≡ span (later (test * (n * n)) from) ((test + 1) * (n * n)) (word n side d squares)
test_words n side d squares test from =
    span_same (later (test * (n * n)) from) ((test + 1) * (n * n)) (word n side (λ t. d test) squares) (word n side d squares)
    (λ j above less. ap (λ (v : ℕ). square_opening n v squares j) (one_test n side d test j (omega arith) less))

pub loop-test-preserved : goal.loop-test-preserved
loop-test-preserved c =
    let a = c.args in
    let n = a.self.n.bits in
    let d : ℕ → ℕ = λ i. get_or a.tests.doubled i 0 in
    let f = word n a.side d a.self.words.now in
    let size = n * n in
    let test = c.loop-test.test - 1 in
    let next : c.loop-test.test ≡ test + 1 = omega (arith, c.loop-test-test.true) in
    let place = later (test * size) a.from in
    let last : test + 1 ≤ 3 = omega (arith, c.loop-test.invariant.0, next) in (
      omega (arith, c.loop-test.invariant.0),
      search rules,
      c.open_test.ensures
          ∙ ap (λ (ws : List ℕ). sets c.loop-test.out place ws) (test_words n a.side d a.self.words.now test a.from)
          ∙ ap (λ (m : List ℕ). sets m place (span place ((test + 1) * size) f))
          (c.loop-test.invariant.2 ∙ ap (λ (b : ℕ). sets a.out.now (later (b * size) a.from) (span (later (b * size) a.from) (square_count n) f)) next)
          ∙ turn_down a.out.now size test a.from (square_count n) f (mul-le-mul_right size last),
    )
