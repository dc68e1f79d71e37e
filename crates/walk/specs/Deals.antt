-- What the walk reads off a deal.
use Rattle.std.specs.Prelude.{ℕ, ◌≡◌, true, List}
use Rattle.refusals.specs.Checks.{ground_of}
use Rattle.deals.specs.Deals.{Deal, deal_rule}
use Rattle.walk.specs.declared.dealing.Attempt.{Attempt}

-- a deal of pair 5 and tape number 0
abbrev pub dealt : ℕ → ℕ → List ℕ → List ℕ → Deal
dealt seed n t1 t2 = deal_rule seed n 5 0 t1 t2

-- what is told of a deal: the rule's refusal, and it's called kept just when the rule leaves both buffers as they were
pub record Told (attempt : Attempt) (t1 t2 : List ℕ) (rule : Deal) : Type 0 where
  pub refusal : ground_of attempt.answer ≡ rule.refusal
  pub same : attempt.kept ≡ true → (t1 ≡ rule.tape1) × (t2 ≡ rule.tape2)
  pub kept : t1 ≡ rule.tape1 → t2 ≡ rule.tape2 → attempt.kept ≡ true
