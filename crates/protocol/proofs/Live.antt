-- What a box goes on with after each round: the words of work that later rounds read. All else that work holds makes no difference.
use Prim.Native.Nat.{ℕ, suc, ◌+◌, ◌*◌, ◌/◌, ◌%◌, ◌<◌, ◌≤◌}
use mathlib.Core.Path.{◌≡◌, refl, sym, ap, ◌∙◌}
use mathlib.Core.Bool.{Bool, true, false, cond}
use mathlib.Core.List.{List, [], ◌∷◌}
use native.Mathlib.Omega.{arith}
use lib.Dec.{eqb}
use lib.ListN.{length}
use Rattle.lists.specs.Tabulate.{tabulate}
use Rattle.lists.proofs.Tabulate.{tabulate_same}
use Rattle.lists.proofs.Sums.{sum_same}
use Rattle.field.specs.Width.{modulus, listed}
use Rattle.tape.specs.Layout.{group_count}
use Rattle.tape.proofs.Letters.{group_index}
use Rattle.protocol.specs.Work.{sum_slot, wrap_slot, half_slot, work_length, held}
use Rattle.protocol.specs.Products.{Party, Products, open_left, open_right, openings, alternating, closing}
use Rattle.protocol.specs.Levels.{level_match, level_opened, wrap_share}
use Rattle.protocol.specs.Answer.{half_opening, half_opened, answer_from}
use Rattle.protocol.specs.Rounds.{earlier_rounds, last_round, at_round, powers_of, level_products, wrap_products, half_share, half_word, answer_share, message, after_hearing}
use Rattle.protocol.proofs.ByRound.{Each, by_round}
use Rattle.protocol.proofs.Slots.{count_1, sum_1, level_2, sum_2, wrap_3, sum_3, half_4}

-- so many words of work, by their slots
pub record Stretch : Type 0 where
  pub count : ℕ
  pub slot : ℕ → ℕ

abbrev stretch : ℕ → (ℕ → ℕ) → Stretch
stretch count slot = record { count = count; slot = slot }

-- two works hold the same in them
abbrev pub Equal : ℕ → List ℕ → List ℕ → Stretch → Type 0
Equal n v v' s = (i : ℕ) → i < s.count → held n v (s.slot i) ≡ held n v' (s.slot i)

-- the words that are read later, after each round
abbrev pub live_table : ℕ → List (List Stretch)
live_table n =
    (stretch (group_count n) (λ g. g) ∷ stretch 3 (sum_slot n) ∷ [])
    ∷ (stretch (group_count n) (λ g. g) ∷ stretch 3 (sum_slot n) ∷ [])
    ∷ (stretch 3 (sum_slot n) ∷ stretch 3 (wrap_slot n) ∷ [])
    ∷ (stretch 3 (half_slot n) ∷ [])
    ∷ []

-- after so many rounds, the same in every word that is read later
abbrev pub Live : ℕ → ℕ → List ℕ → List ℕ → Type 0
Live n r v v' = Each (Equal n v v') (at_round r (live_table n) [])

-- ---- products with the same factors

choice_same : (t : Bool) {a a' b b' : ℕ} → a ≡ a' → b ≡ b' → cond t a b ≡ cond t a' b'
choice_same true e f = e
choice_same false e f = f

pub openings_same : (q q' : Party) (ps ps' : Products) → ps.count ≡ ps'.count
    → ((i : ℕ) → i < ps.count → open_left q ps i ≡ open_left q' ps' i)
    → ((i : ℕ) → i < ps.count → open_right q ps i ≡ open_right q' ps' i)
    → openings q ps ≡ openings q' ps'
unfolding openings
openings_same q q' ps ps' e left right =
    tabulate_same (ps.count * 2) (alternating (open_left q ps) (open_right q ps)) (alternating (open_left q' ps') (open_right q' ps'))
    (λ j less. choice_same (eqb (j % 2) 0) (left (j / 2) (omega arith)) (right (j / 2) (omega arith)))
    ∙ ap (λ (k : ℕ). tabulate (k * 2) (alternating (open_left q' ps') (open_right q' ps'))) e

module _ (q : Party) where
  abbrev n : ℕ
  n = q.n

  -- ---- what is sent depends on those words alone

  module _ (v v' : List ℕ) where
    message_2 : Live n 1 v v' → message q v 2 ≡ message q v' 2
    unfolding message level_products open_left open_right
    message_2 h = openings_same q q (level_products q v) (level_products q v') refl (λ g lg. rw (h.0 g lg)) (λ g lg. refl)

    message_3 : Live n 2 v v' → message q v 3 ≡ message q v' 3
    unfolding message
    message_3 h = tabulate_same (group_count n) (λ g. held n v g) (λ g. held n v' g) h.0

    message_4 : Live n 3 v v' → message q v 4 ≡ message q v' 4
    unfolding message wrap_products open_left open_right
    message_4 h = openings_same q q (wrap_products q v) (wrap_products q v') refl (λ t lt. rw (h.0 t lt)) (λ t lt. rw (h.1.0 t lt))

    message_last : Live n earlier_rounds v v' → message q v last_round ≡ message q v' last_round
    unfolding message half_word half_opening
    message_last h = tabulate_same 3 (half_word q v) (half_word q v') (λ k less. rw (h.0 k less))

  pub message_live : (r : ℕ) (v v' : List ℕ) → Live n r v v' → message q v (suc r) ≡ message q v' (suc r)
  unfolding message
  message_live r v v' =
      by_round last_round (λ r. Live n r v v' → message q v (suc r) ≡ message q v' (suc r))
      (λ h. refl, (message_2 v v', (message_3 v v', (message_4 v v', (message_last v v', λ r h. refl))))) r

  pub answer_live : (v v' incoming : List ℕ) → Live n earlier_rounds v v' → answer_share q v incoming ≡ answer_share q v' incoming
  unfolding answer_share answer_from half_opened half_opening
  answer_live v v' incoming h = rw (h.0 0 (omega arith), h.0 1 (omega arith), h.0 2 (omega arith))

  -- ---- and what is held after hearing depends on them and on what was heard

  module _ (l : listed n ≡ true) (v v' incoming : List ℕ) (room : work_length n ≤ length v) (room' : work_length n ≤ length v') where
    after_1 : Live n 1 (after_hearing q v 1 incoming) (after_hearing q v' 1 incoming)
    after_1 = (
      λ g less. count_1 q l v incoming room g less ∙ sym (count_1 q l v' incoming room' g less),
      (λ t less. sum_1 q l v incoming room t less ∙ sym (sum_1 q l v' incoming room' t less), tt),
    )

    after_2 : Live n 1 v v' → Live n 2 (after_hearing q v 2 incoming) (after_hearing q v' 2 incoming)
    unfolding closing level_products
    after_2 h = (
      λ g less. level_2 q l v incoming room g less ∙ rw (h.0 g less) (sym (level_2 q l v' incoming room' g less)),
      (λ t less. sum_2 q l v incoming room t ∙ h.1.0 t less ∙ sym (sum_2 q l v' incoming room' t), tt),
    )

    wrap_same : Live n 2 v v' → Equal n (after_hearing q v 3 incoming) (after_hearing q v' 3 incoming) (stretch 3 (wrap_slot n))
    unfolding wrap_share
    wrap_same h t less =
        wrap_3 q l v incoming room t less
        ∙ ap (λ (k : ℕ). k % modulus n)
        (sum_same n
        (λ i. level_match n q.side (level_opened n v incoming (t * n + i)) (powers_of q) (t * n + i))
        (λ i. level_match n q.side (level_opened n v' incoming (t * n + i)) (powers_of q) (t * n + i))
        (λ i li. rw (h.0 (t * n + i) (group_index n t i less li))))
        ∙ sym (wrap_3 q l v' incoming room' t less)

    after_3 : Live n 2 v v' → Live n 3 (after_hearing q v 3 incoming) (after_hearing q v' 3 incoming)
    after_3 h = (
      λ t less. sum_3 q l v incoming room t less ∙ h.1.0 t less ∙ sym (sum_3 q l v' incoming room' t less),
      (wrap_same h, tt),
    )

    after_4 : Live n 3 v v' → Live n 4 (after_hearing q v 4 incoming) (after_hearing q v' 4 incoming)
    unfolding half_share closing wrap_products
    after_4 h = (
      λ t less. half_4 q l v incoming room t less ∙ rw (h.0 t less, h.1.0 t less) (sym (half_4 q l v' incoming room' t less)),
      tt,
    )

    pub after_live : (r : ℕ) → Live n r v v' → Live n (suc r) (after_hearing q v (suc r) incoming) (after_hearing q v' (suc r) incoming)
    after_live =
        by_round earlier_rounds (λ r. Live n r v v' → Live n (suc r) (after_hearing q v (suc r) incoming) (after_hearing q v' (suc r) incoming))
        (λ h. after_1, (after_2, (after_3, (after_4, λ r h. tt))))
