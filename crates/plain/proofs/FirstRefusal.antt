-- What the two boxes give for a job on plain tapes: the first refusal, or the right bit.
use Rattle.std.proofs.Common.{◌≡◌, ℕ, ◌≤◌, true, cond, eqb, refl, ap, ◌∙◌}
use borrow.Author.Tests.{le-leb}
use Rattle.field.specs.Width.{listed}
use Rattle.tape.specs.Plain.{plain_tape}
use Rattle.tape.proofs.Plains.{plain_dealt}
use Rattle.exchange.specs.declared.Shares.{Shares}
use Rattle.exchange.specs.Memory.{Compared, fresh_job}
use Rattle.exchange.proofs.Fresh.{fresh_share_refusal, fresh_answer}
use Rattle.plain.specs.Printed.{plain_refusal, plain_less, plain_answer}

module _ (n : ℕ) (box1 box2 : Shares) (width : listed n ≡ true) (most : n ≤ 13) where
  abbrev job : Compared
  job = fresh_job n 1 0 box1 box2 (plain_tape n 1 1 0) (plain_tape n 1 2 0)

  pub first_refusal : job.refusal ≡ plain_refusal n box1.x box2.x box1.y box2.y
  unfolding plain_refusal
  first_refusal = fresh_share_refusal n 1 box1 box2 _ _ (plain_dealt n 1 0 width) ∙ rw (width, le-leb n 13 most) refl

  pub right_answer : job.less ≡ plain_answer n box1.x box2.x box1.y box2.y
  unfolding plain_less plain_answer
  right_answer =
      fresh_answer n 1 box1 box2 _ _ (λ none. plain_dealt n 1 0 width)
      ∙ ap (λ (k : ℕ). cond (eqb k 0) (plain_less n box1.x box2.x box1.y box2.y) 0) first_refusal
