-- One tape in two jobs gives it away: its masks cancel in the difference of the two first messages.
use Prim.Native.Nat.{ℕ, ◌+◌, ◌-◌, ◌/◌, ◌%◌, ◌<◌, ◌≤◌}
use mathlib.Core.Path.{◌≡◌, refl, sym, ap, ◌∙◌}
use mathlib.Core.Bool.{Bool, true, false, cond}
use mathlib.Core.List.{List, ◌++◌}
use native.Mathlib.Nat.{mod-lt, le_of_lt}
use native.Mathlib.Omega.{arith}
use borrow.Author.Tests.{ltb-true, ltb-false}
use lib.Dec.{eqb, ltb}
use lib.ListN.{length, get_or, get_or-append}
use lib.Seq.{get_or-append-add}
use Rattle.lists.specs.Tabulate.{tabulate}
use Rattle.lists.proofs.Tabulate.{length_tabulate, get_d_tabulate}
use Rattle.field.specs.Subtraction.{minus}
use Rattle.field.specs.Width.{listed, modulus}
use Rattle.field.specs.Congruence.{Cong}
use Rattle.field.proofs.Congruences.{cong_eq, cong_refl, cong_sym, cong_mod, cong_add, cong_negation, cong_move, ◌⊙◌}
use Rattle.field.proofs.Widths.{bounds}
use Rattle.shares.specs.Side.{other}
use Rattle.shares.specs.Share.{constant_share, masked}
use Rattle.tape.specs.Layout.{section, square_count}
use Rattle.tape.specs.Letters.{square_mask, triple_left, triple_right}
use Rattle.protocol.specs.Tests.{doubled, low_bit, complement}
use Rattle.protocol.specs.Products.{Party, party, low_triple, alternating, open_left, open_right, openings}
use Rattle.protocol.specs.Squares.{bit_difference}
use Rattle.protocol.specs.Rounds.{square_word, low_products, round_words, message}
use Rattle.protocol.specs.Reuse.{encoded, GivesAway}

-- what is added to both words cancels in their difference
cancelled : {p : ℕ} (v v' c : ℕ) → 0 < p → v' ≤ p → Cong p (v + (p - v')) ((v + c) % p + (p - (v' + c) % p))
cancelled {p} v v' c pos l =
    let small : (v' + c) % p < p = mod-lt (v' + c) pos in
    cong_move (omega arith)
    (cong_add cong_refl cong_mod
    ⊙ cong_eq {b = v + c + (v' + (p - v'))} (omega arith)
    ⊙ cong_add (cong_sym cong_mod) (cong_negation l)
    ⊙ cong_eq (omega arith))

-- two tabulated lists in one, by place
joined_at : (a b : ℕ) (f g : ℕ → ℕ) (j : ℕ) → j < a + b
    → get_or (tabulate a f ++ tabulate b g) j 0 ≡ cond (ltb j a) (f j) (g (j - a))
joined_at a b f g j inside = go (ltb j a) refl
  where
    go : (t : Bool) → ltb j a ≡ t → get_or (tabulate a f ++ tabulate b g) j 0 ≡ cond t (f j) (g (j - a))
    go true e =
        let less : j < a = ltb-true j a e in
        get_or-append (tabulate a f) (tabulate b g) 0 j (omega (arith, length_tabulate a f))
        ∙ get_d_tabulate a f j 0 less
    go false e =
        let more : a ≤ j = ltb-false j a e in
        let place : j ≡ length (tabulate a f) + (j - a) = omega (arith, length_tabulate a f) in
        ap (λ (k : ℕ). get_or (tabulate a f ++ tabulate b g) k 0) place
        ∙ get_or-append-add (tabulate a f) (tabulate b g) (j - a) 0
        ∙ get_d_tabulate b g (j - a) 0 (omega arith)

-- a choice of masked words is a masked choice
masked_choice : (t : Bool) (n u v a b : ℕ) → cond t (masked n u a) (masked n v b) ≡ masked n (cond t u v) (cond t a b)
masked_choice true n u v a b = refl
masked_choice false n u v a b = refl

choice_below : (t : Bool) {u v p : ℕ} → u < p → v < p → cond t u v < p
choice_below true lu lv = lu
choice_below false lu lv = lv

module _ (n side : ℕ) (tape : List ℕ) where
  -- round 1's masks: the squares', then those of the three triples behind the levels'
  abbrev square_masks : ℕ → ℕ
  square_masks j = square_mask (section n 0 tape) j

  abbrev low_masks : ℕ → ℕ
  low_masks =
      alternating (λ t. triple_left (section n 2 tape) (low_triple n + t)) (λ t. triple_right (section n 2 tape) (low_triple n + t))

  abbrev masks : ℕ → ℕ
  masks j = cond (ltb j (square_count n)) (square_masks j) (low_masks (j - square_count n))

  module _ (x y : ℕ) where
    abbrev b : Party
    b = party n side x y tape

    abbrev bits : ℕ → ℕ
    bits = bit_difference n side (doubled n x y)

    abbrev lows : ℕ → ℕ
    lows = alternating (λ t. constant_share side (low_bit n x y t)) (λ t. constant_share (other side) (low_bit n x y t))

    -- a word that opens one of the three products is its encoding's, masked
    low_masked : (i : ℕ) → alternating (open_left b (low_products b)) (open_right b (low_products b)) i ≡ masked n (lows i) (low_masks i)
    unfolding open_left open_right low_products
    low_masked i = masked_choice (eqb (i % 2) 0) n _ _ _ _

    encoded_at : (j : ℕ) → j < round_words n 1
        → get_or (encoded n side x y) j 0 ≡ cond (ltb j (square_count n)) (bits j) (lows (j - square_count n))
    unfolding encoded round_words
    encoded_at j inside = joined_at (square_count n) 6 bits lows j inside

    -- so is every word of round 1
    word_masked : (work : List ℕ) (j : ℕ) → j < round_words n 1
        → get_or (message b work 1) j 0 ≡ masked n (get_or (encoded n side x y) j 0) (masks j)
    unfolding message openings round_words square_word low_products
    word_masked work j inside =
        let k = j - square_count n in
        joined_at (square_count n) 6 (square_word b) (alternating (open_left b (low_products b)) (open_right b (low_products b))) j inside
        ∙ ap (λ (v : ℕ). cond (ltb j (square_count n)) (square_word b j) v) (low_masked k)
        ∙ masked_choice (ltb j (square_count n)) n (bits j) (lows k) (square_masks j) (low_masks k)
        ∙ ap (λ (v : ℕ). masked n v (masks j)) (sym (encoded_at j inside))

    constant_below : (s t : ℕ) {p : ℕ} → 2 ≤ p → constant_share s (low_bit n x y t) < p
    unfolding constant_share
    constant_below s t l =
        let bit : low_bit n x y t < 2 = mod-lt (doubled n x y t) (omega arith) in
        choice_below (eqb s 1) (omega arith) (omega arith)

    encoded_below : (j : ℕ) → j < round_words n 1 → listed n ≡ true → get_or (encoded n side x y) j 0 < modulus n
    unfolding bit_difference complement minus
    encoded_below j inside width =
        let two : 2 ≤ modulus n = omega (arith, bounds width) in
        let k = j - square_count n in
        rw (encoded_at j inside)
        (choice_below (ltb j (square_count n)) (mod-lt _ (omega arith))
        (choice_below (eqb (k % 2) 0) (constant_below side (k / 2) two) (constant_below (other side) (k / 2) two)))

pub gives_away : (n side : ℕ) (tape : List ℕ) → GivesAway n side tape
unfolding minus
gives_away n side tape width x y x' y' work work' j inside =
    let positive : 0 < modulus n = omega (arith, bounds width) in
    rw (word_masked n side tape x y work j inside, word_masked n side tape x' y' work' j inside)
    (sym
    (cancelled (get_or (encoded n side x y) j 0) (get_or (encoded n side x' y') j 0) (modulus n - masks n side tape j) positive
    (le_of_lt (encoded_below n side tape x' y' j inside width))
    ).same)
