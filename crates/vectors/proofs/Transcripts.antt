-- A text that tells the rounds of a job, one after another.
use Rattle.std.proofs.Common.{◌≡◌, ℕ, zero, suc, ◌+◌, ◌<◌, ◌≤◌, List, ◌++◌, Option, Some, None, ⊎_elim, refl, ap₂, arith}
use native.Mathlib.Numerals.{add-one}
use Rattle.std.proofs.lemmas.Bool.{cases_lt}
use Rattle.lists.proofs.Joined.{chained_same}
use Rattle.protocol.specs.Products.{Party}
use Rattle.protocol.specs.Rounds.{last_round}
use Rattle.protocol.specs.Exchange.{Both}
use Rattle.rules.specs.Tasks.{count_of}
use Rattle.rules.specs.declared.state.Task.{Task}
use Rattle.vectors.specs.Numbers.{spelled}
use Rattle.vectors.specs.Job.{messages, held, messages_to, answers, transcript}
use Rattle.vectors.proofs.Readings.{spelled_append}
use Rattle.vectors.proofs.Given.{given_same}

module _ (text : List ℕ) (n : ℕ) (task : Task) (box1 box2 : ℕ → Party) (w : ℕ → Both) where
  abbrev count : ℕ
  count = count_of task

  -- what is left of the text after so many rounds
  abbrev pub left : ℕ → Option (List ℕ)
  left k = spelled text (messages_to count box1 box2 w k)

  abbrev round_after : ℕ → List ℕ
  round_after k = messages count box1 box2 (held box1 box2 w k) (suc k)

  -- one round more
  pub left_more : (k : ℕ) (rest : List ℕ) → Some rest ≡ left k → left (k + 1) ≡ spelled rest (messages count box1 box2 (held box1 box2 w k) (k + 1))
  unfolding messages_to
  left_more k rest so_far = rw (add-one k, spelled_append text (messages_to count box1 box2 w k) (round_after k), ← so_far)

  -- what fails once fails for good
  fails_to : (m k : ℕ) → k ≤ m → left k ≡ None → left m ≡ None
  unfolding messages_to
  fails_to zero k h e = let none : k ≡ 0 = omega arith in rw none at e
  fails_to (suc m) k h e =
      ⊎_elim
      (λ above. let last : k ≡ suc m = omega (arith, above, h) in rw last at e)
      (λ within. rw (spelled_append text (messages_to count box1 box2 w m) (round_after m), fails_to m k within e))
      (cases_lt m k)

  pub told_fails : (k : ℕ) → k ≤ last_round → left k ≡ None → spelled text (transcript n task box1 box2 w) ≡ None
  told_fails k few none =
      rw (spelled_append text (messages_to count box1 box2 w last_round) (answers n task box1 box2 w), fails_to last_round k few none)

  -- after the last, the answer shares decide
  pub told_last : (rest : List ℕ) → Some rest ≡ left last_round → spelled text (transcript n task box1 box2 w) ≡ spelled rest (answers n task box1 box2 w)
  told_last rest all = rw (spelled_append text (messages_to count box1 box2 w last_round) (answers n task box1 box2 w), ← all)

-- it is told by what the boxes have of the comparisons below the count
module _ (count : ℕ) (box1 box2 box1' box2' : ℕ → Party) (w w' : ℕ → Both) (same1 : (i : ℕ) → i < count → box1 i ≡ box1' i)
    (same2 : (i : ℕ) → i < count → box2 i ≡ box2' i) (same : (i : ℕ) → i < count → w i ≡ w' i) where
  round_same : (k round : ℕ) → messages count box1 box2 (held box1 box2 w k) round ≡ messages count box1' box2' (held box1' box2' w' k) round
  round_same k round =
      ap₂ ◌++◌
      (chained_same count _ _ (λ i less. rw (same1 i less, same2 i less, same i less) refl))
      (chained_same count _ _ (λ i less. rw (same1 i less, same2 i less, same i less) refl))

  pub messages_same : (k : ℕ) → messages_to count box1 box2 w k ≡ messages_to count box1' box2' w' k
  unfolding messages_to
  messages_same zero = refl
  messages_same (suc k) = ap₂ ◌++◌ (messages_same k) (round_same k (suc k))

-- the answer shares too
module _ (n : ℕ) (task : Task) (box1 box2 box1' box2' : ℕ → Party) (w w' : ℕ → Both) (same1 : (i : ℕ) → i < count_of task → box1 i ≡ box1' i)
    (same2 : (i : ℕ) → i < count_of task → box2 i ≡ box2' i) (same : (i : ℕ) → i < count_of task → w i ≡ w' i) where
  pub transcript_same : transcript n task box1 box2 w ≡ transcript n task box1' box2' w'
  transcript_same =
      ap₂ ◌++◌
      (messages_same (count_of task) box1 box2 box1' box2' w w' same1 same2 same last_round)
      (ap₂ ◌++◌
      (given_same n 1 task _ _ (λ i less. rw (same1 i less, same2 i less, same i less) refl))
      (given_same n 2 task _ _ (λ i less. rw (same1 i less, same2 i less, same i less) refl)))
