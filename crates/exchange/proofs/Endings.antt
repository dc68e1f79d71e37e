-- How a job ends: at box 1's refusal, at box 2's, or with both boxes come to it.
use Prim.Native.Nat.{ℕ}
use mathlib.Core.Path.{◌≡◌, refl}
use mathlib.Core.Bool.{Bool, true, false, cond}
use mathlib.Core.List.{List}
use native.Mathlib.Omega.{arith}
use borrow.Author.Tests.{ne_eqb}
use lib.Dec.{eqb}
use Rattle.std.specs.Prelude.{Err, Result as Answer}
use Rattle.refusals.specs.Numbers.{number_of}
use Rattle.refusals.specs.Checks.{ground_of}
use Rattle.refusals.proofs.Numbers.{numbered}
use Rattle.refusals.specs.declared.Refusal.{Refusal}
use Rattle.rules.specs.Answers.{started, refused}
use Rattle.rules.specs.Calls.{outcome}
use Rattle.rules.specs.declared.state.Task.{Task}
use Rattle.rules.specs.declared.state.State.{State}
use Rattle.exchange.specs.Jobs.{Lent, comes, roomy, opened_bits, job_refusal, no_bits, bits_of, Ended, ended, job_of}

-- a refusal is some number
some : (refusal : Refusal) → number_of refusal ≡ 0 → ⊥
some refusal zero = omega (arith, zero, numbered refusal)

abbrev made : List ℕ → List ℕ → ℕ → List ℕ → Ended
made k1 k2 refusal bits = record { refusal = refusal; bits = bits; tally1 = k1; tally2 = k2 }

module _ (n pair first : ℕ) (task : Task) (box1 box2 : Lent) where
  pub ends_at_box1 : (refusal : Refusal) (s1 : State) (k1 : List ℕ) → outcome (refused (number_of refusal)) s1 k1 ≡ comes n 1 pair first task box1
      → ended (Err refusal) k1 box2.tally ≡ job_of n pair first task box1 box2
  unfolding job_of job_refusal
  ends_at_box1 refusal s1 k1 told1 = rw (← told1, ne_eqb (number_of refusal) 0 (some refusal), ne_eqb (number_of refusal) 0 (some refusal))

  module _ (s1 : State) (k1 : List ℕ) (told1 : outcome started s1 k1 ≡ comes n 1 pair first task box1) where
    pub ends_at_box2 : (refusal : Refusal) (s2 : State) (k2 : List ℕ) → outcome (refused (number_of refusal)) s2 k2 ≡ comes n 2 pair first task box2
        → ended (Err refusal) k1 k2 ≡ job_of n pair first task box1 box2
    unfolding job_of job_refusal
    ends_at_box2 refusal s2 k2 told2 = rw (← told1, ← told2, ne_eqb (number_of refusal) 0 (some refusal), ne_eqb (number_of refusal) 0 (some refusal))

    pub ends_opened : (s2 : State) (k2 : List ℕ) → outcome started s2 k2 ≡ comes n 2 pair first task box2
        → (v : Answer (List ℕ) Refusal) → ground_of v ≡ cond (roomy n task box1.out box2.out) 0 12
        → bits_of v ≡ cond (roomy n task box1.out box2.out) (opened_bits n task s1 s2 box1.tapes box2.tapes box1.work box2.work) no_bits
        → ended v k1 k2 ≡ job_of n pair first task box1 box2
    unfolding job_of job_refusal
    ends_opened s2 k2 told2 v refusal bits = rw (← told1, ← told2, refusal, bits) (go (roomy n task box1.out box2.out))
      where
        sums : List ℕ
        sums = opened_bits n task s1 s2 box1.tapes box2.tapes box1.work box2.work

        go : (t : Bool) → made k1 k2 (cond t 0 12) (cond t sums no_bits) ≡ made k1 k2 (cond t 0 12) (cond (eqb (cond t 0 12) 0) sums no_bits)
        go true = refl
        go false = refl
