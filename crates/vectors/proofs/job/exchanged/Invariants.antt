-- `vectors::job::exchanged` meets its contract. The loop's invariant: the text told all rounds so far.
use Rattle.vectors.proofs.Rounds.{Told}
use Rattle.vectors.proofs.job.exchanged.Given as goal

abbrev pub invariant-loop-heard : goal.invariant-loop-heard
invariant-loop-heard l =
    Told l.initial.text.text.now l.spelling l.first l.initial.s1 l.initial.s2 l.t1 l.t2 l.initial.w1 l.initial.w2
    l.heard l.text.text.now l.s1 l.s2 l.w1 l.w2 l.zeros
