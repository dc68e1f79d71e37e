-- A message is heard as it is read: each opening reads its words, so all that a box works out from a message it works out from the words after
-- the reading.
use Prim.Native.Nat.{ℕ, ◌+◌, ◌*◌, ◌%◌}
use mathlib.Core.Path.{◌≡◌, refl, ap, ap₂, ◌∙◌}
use mathlib.Core.List.{List, [], ◌∷◌}
use lib.ListN.{get_or}
use lib.Seq.{sets}
use Rattle.lists.proofs.Tabulate.{tabulate_same}
use Rattle.lists.proofs.Sums.{sum_same}
use Rattle.field.specs.Width.{modulus}
use Rattle.shares.specs.Reading.{read_words}
use Rattle.shares.specs.Share.{constant_share, opened}
use Rattle.shares.proofs.Reading.{get_d_read, opened_read}
use Rattle.tape.specs.Layout.{group_count}
use Rattle.protocol.specs.Work.{sum_slot, wrap_slot, half_slot}
use Rattle.protocol.specs.Products.{Party, Products, triples_of, closed, closing}
use Rattle.protocol.specs.Squares.{bit_difference, square_closing, match_count}
use Rattle.protocol.specs.Levels.{level_match, level_opened, wrap_share}
use Rattle.protocol.specs.Answer.{half_opened, answer_from}
use Rattle.protocol.specs.Rounds.{squares_of, powers_of, doubled_of, low_sum, level_products, half_share, halves_held, answer_share, hearing_table, after_hearing}
use Rattle.protocol.proofs.ByRound.{at_both}

-- ---- one opening, and what is worked out from it

-- an opening of any word of the message
word_read : (n sent : ℕ) (incoming : List ℕ) (i : ℕ) → opened n sent (get_or (read_words n incoming) i 0) ≡ opened n sent (get_or incoming i 0)
word_read n sent incoming i = ap (opened n sent) (get_d_read n incoming i) ∙ opened_read n sent (get_or incoming i 0)

square_read : (n side v : ℕ) (squares incoming : List ℕ) (j : ℕ)
    → square_closing n side v squares (read_words n incoming) j ≡ square_closing n side v squares incoming j
unfolding square_closing
square_read n side v squares incoming j = rw (word_read n _ incoming j) refl

closed_read : (n side v u : ℕ) (triples : List ℕ) (i : ℕ) (incoming : List ℕ) (at : ℕ)
    → closed n side v u triples i (read_words n incoming) at ≡ closed n side v u triples i incoming at
unfolding closed
closed_read n side v u triples i incoming at = rw (word_read n _ incoming at, word_read n _ incoming (at + 1)) refl

closing_read : (b : Party) (ps : Products) (incoming : List ℕ) (from i : ℕ)
    → closing b ps (read_words b.n incoming) from i ≡ closing b ps incoming from i
unfolding closing
closing_read b ps incoming from i = closed_read b.n b.side (ps.left i) (ps.right i) _ (ps.first + i) incoming (from + i * 2)

half_opened_read : (n : ℕ) (v : ℕ → ℕ) (triples incoming : List ℕ) (k : ℕ)
    → half_opened n v triples (read_words n incoming) k ≡ half_opened n v triples incoming k
unfolding half_opened
half_opened_read n v triples incoming k = word_read n _ incoming k

-- ---- the rounds

module _ (b : Party) (work incoming : List ℕ) where
  abbrev n : ℕ
  n = b.n

  abbrev message : List ℕ
  message = read_words b.n incoming

  count_read : (g : ℕ) → match_count n b.side (doubled_of b) (squares_of b) message g ≡ match_count n b.side (doubled_of b) (squares_of b) incoming g
  unfolding match_count
  count_read g =
      ap (λ (k : ℕ). (constant_share b.side 1 + k) % modulus n)
      (sum_same n
      (λ k. square_closing n b.side (bit_difference n b.side (doubled_of b) (g * n + k)) (squares_of b) message (g * n + k))
      (λ k. square_closing n b.side (bit_difference n b.side (doubled_of b) (g * n + k)) (squares_of b) incoming (g * n + k))
      (λ k less. square_read n b.side _ (squares_of b) incoming (g * n + k)))

  low_read : (t : ℕ) → low_sum b message t ≡ low_sum b incoming t
  unfolding low_sum
  low_read t = rw (closing_read b _ incoming _ t) refl

  wrap_read : (t : ℕ) → wrap_share n b.side (powers_of b) work message t ≡ wrap_share n b.side (powers_of b) work incoming t
  unfolding wrap_share
  wrap_read t =
      ap (λ (k : ℕ). k % modulus n)
      (sum_same n
      (λ i. level_match n b.side (level_opened n work message (t * n + i)) (powers_of b) (t * n + i))
      (λ i. level_match n b.side (level_opened n work incoming (t * n + i)) (powers_of b) (t * n + i))
      (λ i less. ap (λ (d : ℕ). level_match n b.side d (powers_of b) (t * n + i)) (word_read n _ incoming (t * n + i))))

  half_read : (t : ℕ) → half_share b work message t ≡ half_share b work incoming t
  unfolding half_share
  half_read t = rw (closing_read b _ incoming 0 t) refl

  -- what is held after the message was heard, whatever the round
  pub after_read : (round : ℕ) → after_hearing b work round message ≡ after_hearing b work round incoming
  unfolding after_hearing
  after_read =
      at_both (λ after after'. after ≡ after') (hearing_table b work message) (hearing_table b work incoming) work work (
        ap₂ (λ (counts lows : List ℕ). sets (sets work 0 counts) (sum_slot n 0) lows)
            (tabulate_same (group_count n) _ _ (λ g less. count_read g))
            (tabulate_same 3 _ _ (λ t less. low_read t)),
        (
          ap (sets work 0) (tabulate_same (group_count n) _ _ (λ g less. closing_read b (level_products b work) incoming 0 g)),
          (
            ap (sets work (wrap_slot n 0)) (tabulate_same 3 _ _ (λ t less. wrap_read t)),
            (
              ap (sets work (half_slot n 0)) (tabulate_same 3 _ _ (λ t less. half_read t)),
              (refl, tt),
            ),
          ),
        ),
      )
      refl

  -- and the answer share
  pub answer_read : answer_share b work message ≡ answer_share b work incoming
  unfolding answer_share answer_from
  answer_read =
      let v = halves_held b work in
      rw (half_opened_read n v (triples_of b) incoming 0, half_opened_read n v (triples_of b) incoming 1, half_opened_read n v (triples_of b) incoming 2) refl
