use Rattle.std.proofs.Common.{ℕ, ◌≡◌, ◌≤◌, subst, arith}
use Rattle.protocol.specs.Rounds.{earlier_rounds}
use Rattle.rules.specs.Tasks.{count_of}
use Rattle.rules.proofs.Batches.{count_most}
use Rattle.vectors.proofs.Jobs.{ready_counted, answers_few}
use Rattle.vectors.proofs.Rounds.{Told, told_first, told_counts, told_most, told_none, told_next, told_shares}
use Rattle.vectors.proofs.job.exchanged.Goals.{At-loop-heard}
use Rattle.vectors.proofs.job.exchanged.Goals as goal

-- where the loop ends, the text told all rounds but the last
module _ (l : At-loop-heard) where
  abbrev So_far : ℕ → Type 0
  So_far k =
      let v = l.args in
      Told v.text.now.text.now v.spelling v.first v.s1.now v.s2.now v.t1.now v.t2.now v.w1.now v.w2.now
      k l.loop-heard.text.text.now l.loop-heard.s1 l.loop-heard.s2 l.loop-heard.w1 l.loop-heard.w2 l.loop-heard.zeros

  ended : earlier_rounds ≤ l.loop-heard.heard → So_far earlier_rounds
  ended end = let all : l.loop-heard.heard ≡ earlier_rounds = omega (arith, end) in subst So_far all l.loop-heard.invariant

pub loop-heard-init : goal.loop-heard-init
loop-heard-init c = told_first _ _ _ _ _ _ _ _ _ c.requires

pub overflow_add-zeros : goal.overflow_add-zeros
overflow_add-zeros c =
    omega (arith, told_most _ _ _ _ _ _ _ _ _ c.requires c.loop-heard.invariant _ c.in_ok-round.ensures.zeros, c.loop-heard-test.true)

pub loop-heard-preserved : goal.loop-heard-preserved
loop-heard-preserved c =
    let e = c.in_ok-round.ensures in
    told_next _ _ _ _ _ _ _ _ _ c.requires c.loop-heard.invariant _ _ _ e.read e.zeros e.box1 e.box2 c.loop-heard-test.true

pub answers_same-requires : goal.answers_same-requires
answers_same-requires c =
    let task = c.args.s1.now.batch.task in
    omega (arith, c.answer_count-answers.ensures, answers_few task (count_most (count_of task) (ready_counted c.requires.box1)).1)

pub returns-in_err-last-clause-agrees : goal.returns-in_err-last-clause-agrees
returns-in_err-last-clause-agrees c =
    let r = ended (goal.at.returns-in_err-last-clause-agrees c).At-loop-heard c.loop-heard-test.false in
    rw (c.from_residual-in_err-last.ensures, told_none _ _ _ _ _ _ _ _ _ c.requires r (omega arith) c.in_err-last.ensures.read)

pub returns-in_err-answers_same-clause-agrees : goal.returns-in_err-answers_same-clause-agrees
returns-in_err-answers_same-clause-agrees c =
    let r = ended (goal.at.returns-in_err-answers_same-clause-agrees c).At-loop-heard c.loop-heard-test.false in
    let e = c.in_ok-last.ensures in
    rw (c.from_residual-in_err-answers_same.ensures, ← told_shares _ _ _ _ _ _ _ _ _ c.requires r _ _ e.read e.box1 e.box2 _ c.answer_count-answers.ensures)
    c.in_err-answers_same.ensures

pub overflow_add-result : goal.overflow_add-result
overflow_add-result c =
    let r = ended (goal.at.overflow_add-result c).At-loop-heard c.loop-heard-test.false in
    omega (arith, told_most _ _ _ _ _ _ _ _ _ c.requires r _ c.in_ok-last.ensures.zeros)

pub returns-clause-agrees : goal.returns-clause-agrees
returns-clause-agrees c =
    let r = ended (goal.at.returns-clause-agrees c).At-loop-heard c.loop-heard-test.false in
    let e = c.in_ok-last.ensures in
    rw (← told_shares _ _ _ _ _ _ _ _ _ c.requires r _ _ e.read e.box1 e.box2 _ c.answer_count-answers.ensures) c.in_ok-answers_same.ensures

pub returns-clause-zeros : goal.returns-clause-zeros
returns-clause-zeros c =
    let r = ended (goal.at.returns-clause-zeros c).At-loop-heard c.loop-heard-test.false in
    told_counts _ _ _ _ _ _ _ _ _ c.requires r _ c.in_ok-last.ensures.zeros
