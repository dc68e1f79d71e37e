-- What speak says, and what a filling leaves: it agrees for every count.
use Prim.Native.Nat.{ℕ, ◌+◌, ◌-◌, ◌≤◌}
use mathlib.Core.Path.{◌≡◌, sym, ap, ◌∙◌}
use mathlib.Core.Bool.{true}
use mathlib.Core.List.{List, []}
use native.Mathlib.Omega.{arith}
use lib.ListN.{length}
use lib.Seq.{sets}
use Rattle.lists.specs.Tabulate.{sum}
use Rattle.lists.proofs.Sets.{sets_whole}
use Rattle.lists.proofs.Sums.{sum_more, sum_equal}
use Rattle.encoding.specs.Matching.{indicator}
use Rattle.protocol.specs.Rounds.{round_words, message}
use Rattle.protocol.specs.Filling.{filled}
use Rattle.protocol.proofs.Lengths.{message_length}
use Rattle.compare.specs.declared.party.Party.{Party}
use Rattle.compare.specs.Parties.{party_of}
use Rattle.fills.specs.Due.{blank, as_due}
use Rattle.fills.specs.Fillings.{message_of, fill_agrees, right_at}
use Rattle.fills.proofs.Due.{filled_due}

module _ (b : Party) where
  pub words_length : length (message_of b) ≡ round_words b.n.bits 1
  words_length = message_length (party_of b) [] 1

  -- whatever work there is, all of a buffer of the message's length is the message
  pub spoken_whole : (work words : List ℕ) → length words ≡ round_words b.n.bits 1
      → sets words 0 (message (party_of b) work 1) ≡ message_of b
  unfolding message
  spoken_whole work words long = sets_whole words (message_of b) (words_length ∙ sym long)

  pub all_agree : (count : ℕ) → fill_agrees b count ≡ true
  unfolding fill_agrees
  all_agree count =
      let words = message_of b in
      ap (λ (k : ℕ). as_due (filled (blank (k + 3)) words count) words count) (sym words_length) ∙ filled_due words count

  -- ---- how many agree

  pub one_more : (first count right : ℕ) → first ≤ count → right ≡ sum (count - first) (right_at b first)
      → right + indicator (fill_agrees b count) ≡ sum (count + 1 - first) (right_at b first)
  one_more first count right from told =
      let k = count - first in
      let at : first + k ≡ count = omega arith in
      let next : count + 1 - first ≡ k + 1 = omega arith in
      let more = sum_more k (right_at b first) in
      let here : right_at b first k ≡ indicator (fill_agrees b count) = ap (λ (c : ℕ). indicator (fill_agrees b c)) at in
      rw next (omega (arith, told, more, here))

  pub all_right : (first count : ℕ) → sum count (right_at b first) ≡ count
  all_right first count =
      sum_equal count (right_at b first) 1 (λ i l. ap indicator (all_agree (first + i))) ∙ omega arith
