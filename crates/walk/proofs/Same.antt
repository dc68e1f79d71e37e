-- Two answers with the same reply, and two results that agree in each part, are the same.
use mathlib.Core.Path.{◌≡◌}
use mathlib.Core.Bool.{Bool, true, false}
use native.Mathlib.Omega.{arith}
use Rattle.std.specs.Prelude.{Result as Answer}
use Rattle.std.specs.Result.{is_ok}
use Rattle.refusals.specs.Numbers.{number_of}
use Rattle.refusals.proofs.Numbers.{numbered}
use Rattle.refusals.specs.declared.Refusal.{Refusal}
use Rattle.walk.specs.declared.answers.Said.{Said}
use Rattle.rules.specs.Answers.{reply_of}
use Rattle.rules.specs.Calls.{Result}
use Rattle.walk.specs.declared.memory.BoxMemory.{BoxMemory}
use Rattle.exchange.specs.Opening.{refusal_of}
use Rattle.walk.specs.Said.{as_reply}
use Rattle.walk.specs.Walk.{After}

same_result : (a b : Result) → a.reply ≡ b.reply → a.state ≡ b.state → a.buffer ≡ b.buffer → a ≡ b
same_result a b reply state buffer = grind arith

same_number : (r s : Refusal) → number_of r ≡ number_of s → r ≡ s
same_number r s e = grind arith

same_said : (a b : Said) → as_reply a ≡ as_reply b → a ≡ b
same_said a b e = grind arith

-- two answers with the same reply are the same
same_answer : (a b : Answer Said Refusal) → reply_of as_reply a ≡ reply_of as_reply b → a ≡ b
same_answer a b e = grind (arith, same_number, same_said)

-- an answer that's no refusal, and one that is
pub taken : (a : Answer Said Refusal) → is_ok a ≡ true → refusal_of (reply_of as_reply a) ≡ 0
taken a e = grind arith

pub not_taken : (a : Answer Said Refusal) → is_ok a ≡ false → refusal_of (reply_of as_reply a) ≡ 0 → ⊥
not_taken a e z = grind (arith, numbered)

-- two boxes after their calls, and the test of all that they show
pub same_calls : {a b : BoxMemory} {one two : Result} {test : Bool} → After a a.work one → After b b.work two
    → (test ≡ true → (a.answer ≡ b.answer) × (a.state ≡ b.state) × (a.work ≡ b.work))
    × (a.answer ≡ b.answer → a.state ≡ b.state → a.work ≡ b.work → test ≡ true)
    → (test ≡ true → one ≡ two) × (one ≡ two → test ≡ true)
same_calls {a} {b} {one} {two} h k same = (
  λ e. same_result one two (grind (arith, h, k, same.0 e)) (grind (arith, h, k, same.0 e)) (grind (arith, h, k, same.0 e)),
  λ e. same.1 (same_answer a.answer b.answer (grind (arith, h, k))) (grind (arith, h, k)) (grind (arith, h, k)),
)
