-- A loop that respells a message one word a turn, and counts the zeros.
use Prim.Native.Nat.{ℕ, ◌+◌, ◌<◌, ◌≤◌}
use mathlib.Core.Path.{◌≡◌, refl, sym, ap, ◌∙◌}
use mathlib.Core.Bool.{true}
use mathlib.Core.List.{List}
use mathlib.Core.Logic.{inr}
use native.Mathlib.Nat.{zero-add, add-zero}
use native.Mathlib.Omega.{arith}
use borrow.Author.Tests.{eq-eqb, ne_eqb}
use lib.ListN.{length, get_or, set}
use Rattle.lists.specs.Tabulate.{sum}
use Rattle.lists.proofs.Stores.{Stored, stored_more, stored_all, stored_beside}
use Rattle.lists.proofs.Sums.{sum_more}
use Rattle.lists.proofs.Sets.{sets_whole}
use Rattle.lists.proofs.Tabulate.{length_tabulate}
use Rattle.field.specs.Width.{modulus}
use Rattle.shares.specs.Reading.{respelled, delivered}
use Rattle.board.specs.Zeros.{zero_at, zeros_in}
use Rattle.board.proofs.Zeros.{zeros_to_lem}

-- the words as the board spells them
abbrev spelling : ℕ → List ℕ → ℕ → ℕ
spelling n old i = respelled n true (get_or old i 0)

-- after k turns on the message old
pub record Respelled (n : ℕ) (old l : List ℕ) (zeros k : ℕ) : Type 0 where
  pub stored : Stored old 0 (length old) (spelling n old) l k
  pub counted : zeros ≡ sum k (zero_at old)

module _ {n : ℕ} {old l : List ℕ} {zeros k : ℕ} (h : Respelled n old l zeros k) where
  -- the word of the turn is as it was
  unreached : get_or l k 0 ≡ get_or old k 0
  unreached = stored_beside h.stored k (inr (omega arith))

  pub zeros_so_far : zeros ≤ k
  zeros_so_far = rw h.counted (zeros_to_lem old k)

  -- a turn at a zero
  pub respelled_zero : k < length old → get_or l k 0 ≡ 0 → (p : ℕ) → p ≡ modulus n → Respelled n old (set l k p) (zeros + 1) (k + 1)
  respelled_zero less zero_there p is_p =
      let word = eq-eqb _ _ (sym unreached ∙ zero_there) in
      record {
        stored = stored_more h.stored k p less (sym (zero-add k)) (rw word is_p);
        counted = sym (sum_more k (zero_at old) ∙ rw (word, ← h.counted) refl);
      }

  -- and at any other word, which is written as it is
  pub respelled_other : k < length old → (get_or l k 0 ≡ 0 → ⊥) → Respelled n old (set l k (get_or l k 0)) zeros (k + 1)
  respelled_other less other =
      let word = ne_eqb (get_or old k 0) 0 (λ e. other (unreached ∙ e)) in
      record {
        stored = stored_more h.stored k (get_or l k 0) less (sym (zero-add k)) (rw word unreached);
        counted = sym (sum_more k (zero_at old) ∙ rw (word, ← h.counted) (add-zero zeros));
      }

  -- the end
  pub respelled_all : length old ≤ k → (zeros ≡ zeros_in old) × (l ≡ delivered n (λ i. true) old)
  unfolding zeros_in delivered
  respelled_all end =
      let done : k ≡ length old = omega (arith, end, h.stored.turns) in (
        h.counted ∙ ap (λ (m : ℕ). sum m (zero_at old)) done,
        stored_all h.stored end ∙ sets_whole old _ (length_tabulate (length old) (spelling n old)),
      )
