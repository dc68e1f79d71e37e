-- `vectors::job::opened` meets its contract: both boxes are in the text's job, and their work is blank.
use Rattle.std.proofs.Common.{◌≡◌, List, ℕ, ap, subst, ◌∙◌}
use Rattle.std.specs.Option.{is_some, IfSome}
use Rattle.vectors.specs.Numbers.{spelled}
use Rattle.vectors.specs.Job.{job_told}
use Rattle.vectors.specs.Sent.{respelled_in}
use Rattle.vectors.proofs.Openings.{opened_tells, opened_sends}
use Rattle.vectors.proofs.job.opened.Goals as goal

pub returns-clause-agrees : goal.returns-clause-agrees
unfolding job_told
returns-clause-agrees c =
    let v = c.args in
    let box1 = c.in_ok-s1.ensures in
    let box2 = c.in_ok-s2.ensures in
    let tells =
    opened_tells v.job v.t1.now v.t2.now _ _ c.in_ok-s1.s1 c.in_ok-s2.s2 box1.same.0 box2.same.0 box1.same.2 box1.parties box2.parties
    c.blank_works-w1.ensures.1 c.blank_works-w2.ensures.1 in
    rw (← box1.comes, ← box2.comes)
    (c.exchanged.ensures.agrees ∙ ap (λ (words : List ℕ). is_some (spelled v.text.now.text.now words)) tells)

pub returns-clause-zeros : goal.returns-clause-zeros
returns-clause-zeros c =
    let v = c.args in
    let box1 = c.in_ok-s1.ensures in
    let box2 = c.in_ok-s2.ensures in
    let sends =
    opened_sends v.job v.t1.now v.t2.now _ _ c.in_ok-s1.s1 c.in_ok-s2.s2 box1.same.0 box2.same.0 box1.same.2 box1.parties box2.parties
    c.blank_works-w1.ensures.1 c.blank_works-w2.ensures.1 in
    subst (λ (words : List ℕ). IfSome c.exchanged.result (λ zeros. zeros ≡ respelled_in v.spelling words)) sends c.exchanged.ensures.zeros
