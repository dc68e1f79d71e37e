-- When a text tells a deal, by what was found of it.
use Rattle.std.proofs.Common.{◌≡◌, ℕ, ◌<◌, Bool, true, false, not, ◌&&◌, List, ◌++◌, length, Option, Some, None, Result, Ok, Err, eqb, refl, sym, ap, ◌∙◌, arith}
use mathlib.Core.Bool.{and-false}
use native.Mathlib.Nat.{pos_of_ne-zero}
use borrow.Author.Tests.{eqb-true, eqb-false}
use lib.ListN.{drop_of_length-le}
use lib.Seq.{drop-cons}
use Rattle.std.specs.Bool.{⊤}
use Rattle.std.specs.Option.{is_some, option_map}
use Rattle.std.specs.Result.{is_ok}
use Rattle.field.specs.Width.{listed}
use Rattle.refusals.specs.Checks.{ground_of}
use Rattle.refusals.specs.declared.Refusal.{Refusal}
use Rattle.refusals.proofs.Numbers.{numbered}
use Rattle.tape.specs.Layout.{tape_length}
use Rattle.deals.specs.Deals.{Deal as Call, deal_rule, outcome}
use Rattle.deals.proofs.Dealing.{deal_taken, deal_seedless}
use Rattle.vectors.specs.declared.deal.Deal.{Deal}
use Rattle.vectors.specs.Numbers.{numbers_from, read_to, spelled}
use Rattle.vectors.specs.Deal.{both_dealt, deal_told, deal_of, deal_agreed, headed}
use Rattle.vectors.proofs.Readings.{passes, read_all}

pub deal_unlisted : (text : List ℕ) (d : Deal) → listed d.width ≡ false → deal_told text d ≡ false
unfolding deal_told
deal_unlisted text d e = rw (e, and-false (not (eqb d.seed 0)))

went_on : (answer : Result ⊤ Refusal) → ground_of answer ≡ 0 → is_ok answer ≡ true
went_on (Ok _) e = refl
went_on (Err refusal) e = absurd (omega (arith, e, numbered refusal))

refused : (answer : Result ⊤ Refusal) → 0 < ground_of answer → is_ok answer ≡ false
refused (Ok _) e = absurd (omega (arith, e))
refused (Err refusal) e = refl

-- a call on two buffers of a tape's length, which left `new1` and `new2` there
module _ (text : List ℕ) (d : Deal) (t1 t2 new1 new2 : List ℕ) (answer : Result ⊤ Refusal) (n : ℕ) (is : n ≡ d.width) (width : true ≡ listed d.width)
    (long1 : length t1 ≡ tape_length n) (long2 : length t2 ≡ tape_length n)
    (call : outcome answer new1 new2 ≡ deal_rule d.seed d.width d.pair d.number t1 t2) where
  dealt : deal_told text d ≡ (is_ok answer && is_some (spelled text (new1 ++ new2)))
  unfolding deal_told
  dealt = go (eqb d.seed 0) refl
    where
      go : (t : Bool) → eqb d.seed 0 ≡ t
          → (not t && listed d.width && is_some (spelled text (both_dealt d))) ≡ (is_ok answer && is_some (spelled text (new1 ++ new2)))
      go true none =
          let why = ap (λ (c : Call). c.refusal) call ∙ deal_seedless d.seed d.width d.pair d.number t1 t2 (eqb-true d.seed 0 none) in
          rw (refused answer (omega (arith, why)))
      go false some =
          let above : 0 < d.seed = pos_of_ne-zero (eqb-false d.seed 0 some) in
          let length1 = long1 ∙ ap tape_length is in
          let length2 = long2 ∙ ap tape_length is in
          let taken = call ∙ deal_taken d.seed d.width d.pair d.number t1 t2 above (sym width) length1 length2 in
          rw (← width, went_on answer (ap (λ (c : Call). c.refusal) taken), ap (λ (c : Call). c.tape1) taken, ap (λ (c : Call). c.tape2) taken)

  pub deal_refused : false ≡ is_ok answer → deal_told text d ≡ false
  deal_refused refusal = rw (dealt, ← refusal)

  pub deal_compared : {A : Type 0} (f : A → List ℕ) (told : Option A) → true ≡ is_ok answer → option_map f told ≡ spelled text (new1 ++ new2)
      → is_some told ≡ deal_told text d
  deal_compared f told taken read = rw (dealt, ← taken, ← read) (passes f told)

-- ---- a text

pub agreed_none : (text : List ℕ) → None ≡ read_to 4 text → deal_agreed text ≡ false
unfolding deal_agreed
agreed_none text e = rw (← e)

-- of which the four numbers at the front were read
module _ (text rest h : List ℕ) (head : Some rest ≡ read_to 4 text) (is : h ≡ numbers_from 4 text) where
  pub agreed_told : deal_agreed text ≡ deal_told rest (deal_of h)
  unfolding deal_agreed
  agreed_told = rw (← head, ← is)

  pub agreed_named : headed text (deal_of h)
  agreed_named =
      let long : length h ≡ 4 = ap length is ∙ read_all 4 text (sym (ap is_some head)) in
      sym is
      ∙ drop-cons h 0 0 (omega arith)
      ∙ rw (drop-cons h 1 0 (omega arith), drop-cons h 2 0 (omega arith), drop-cons h 3 0 (omega arith), drop_of_length-le h {i = 4} (omega arith))

pub ruleset heads = (agreed_none, agreed_told, agreed_named)
