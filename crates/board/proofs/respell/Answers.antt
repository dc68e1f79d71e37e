use native.Mathlib.Omega.{arith}
use Rattle.board.proofs.Turns.{zeros_so_far, respelled_zero, respelled_other, respelled_all}
use Rattle.board.proofs.respell.Goals.{else-word-eq-ZERO, then-word-eq-ZERO}
use Rattle.board.proofs.respell.Goals as goal

pub overflow_add-zeros : goal.overflow_add-zeros
overflow_add-zeros c = omega (arith, zeros_so_far c.loop-word.invariant)

pub loop-word-preserved : goal.loop-word-preserved
loop-word-preserved c =
    let inv = c.loop-word.invariant in
    elim c.if-word-eq-ZERO.branch [
      | then-word-eq-ZERO w ↦ rw (w.words-is, w.zeros-is) (respelled_zero inv (omega arith) w.if-word-eq-ZERO.true _ c.modulus-p.ensures)
      | else-word-eq-ZERO w ↦ rw (w.words-is, w.zeros-is) (respelled_other inv (omega arith) w.if-word-eq-ZERO.false)
    ]

pub returns-clause-value : goal.returns-clause-value
returns-clause-value c = (respelled_all c.loop-word.invariant (omega arith)).0

pub returns-clause-respelled : goal.returns-clause-respelled
returns-clause-respelled c = (respelled_all c.loop-word.invariant (omega arith)).1
