-- The same messages: the exchange with s and a tape, and the exchange with s' and the shifted tape, whatever work held at first.
use Prim.Native.Nat.{ℕ, ◌+◌, ◌-◌, ◌*◌, ◌%◌, ◌<◌}
use mathlib.Core.Path.{◌≡◌, refl, sym, ap, ap₂, ◌∙◌}
use mathlib.Core.Bool.{true}
use mathlib.Core.List.{List, ◌++◌}
use native.Mathlib.Nat.{le_of_lt}
use native.Mathlib.Omega.{arith}
use lib.ListN.{get_or}
use Rattle.lists.proofs.Tabulate.{tabulate_same}
use Rattle.field.specs.Width.{modulus, listed}
use Rattle.field.specs.Congruence.{Cong}
use Rattle.field.proofs.Congruences.{cong_refl, cong_eq, cong_sym, ◌⊙◌, cong_mul, cong_cancel, cong_unique}
use Rattle.field.proofs.Widths.{bounds}
use Rattle.shares.specs.Side.{other}
use Rattle.shares.specs.Share.{constant_share, masked}
use Rattle.tape.specs.Layout.{section, square_count, group_count, triple_count}
use Rattle.tape.specs.Letters.{square_mask, group_inverse, triple_left, triple_right, last_letter}
use Rattle.tape.specs.Dealt.{Matched}
use Rattle.tape.proofs.Letters.{square_mask_below, group_inverse_below, triple_left_below, triple_right_below, last_below}
use Rattle.tape.proofs.Dealing.{own_readable}
use Rattle.protocol.specs.Work.{sum_slot, wrap_slot, half_slot, held}
use Rattle.protocol.specs.Products.{Party, party, low_triple, wrap_triple, open_left, open_right}
use Rattle.protocol.specs.Answer.{half_opening}
use Rattle.protocol.specs.Rounds.{square_word, low_products, level_products, wrap_products, half_word, last_round, message}
use Rattle.protocol.proofs.ByRound.{by_round}
use Rattle.protocol.proofs.Reading.{held_below}
use Rattle.protocol.proofs.Live.{openings_same}
use Rattle.protocol.proofs.Wraps.{inverse_total}
use Rattle.protocol.specs.Change.{Shares, shares_of, square_share_of, count_of, low_of, sum_of, wraps_of, halves_of, left_values, left_value, right_values, right_value}
use Rattle.protocol.specs.Shift.{new_mask, new_inverse, new_left, new_right, new_last, shifted}
use Rattle.protocol.proofs.Moves.{moved_same, moved_own}
use Rattle.protocol.proofs.Pieces.{new_mask_lem, new_inverse_lem, new_left_lem, new_right_lem}
use Rattle.protocol.proofs.TripleValues.{left_level, left_later, right_level, right_later}
use Rattle.protocol.proofs.Bounds.{square_share_most, left_most, right_most, half_most}
use Rattle.protocol.proofs.Undo.{mask_word}
use Rattle.protocol.proofs.Rules.{inverse_total_lem, count_low, count_high, down}
use Rattle.protocol.proofs.Units.{restored}

-- what holds of each of the three tests
each_test : (P : ℕ → Type 0) → P 0 → P 1 → P 2 → (k : ℕ) → k < 3 → P k
each_test P first second third =
    by_round 3 (λ k. k < 3 → P k) (λ _. first, (λ _. second, (λ _. third, λ k less. absurd (omega arith))))

module _ {n pair number side : ℕ} {own others : List ℕ} (m : Matched n pair number side own others) (x y x' y' xo yo : ℕ) where
  abbrev s : Shares
  s = shares_of n side x y xo yo

  abbrev s' : Shares
  s' = shares_of n side x' y' xo yo

  abbrev t : List ℕ
  t = shifted s s' own others

  abbrev own_box : Party
  own_box = party n side x y own

  abbrev own_box' : Party
  own_box' = party n side x' y' t

  abbrev other_box : Party
  other_box = party n (other side) xo yo others

  l : listed n ≡ true
  l = (own_readable m).width

  -- ---- a product's words, whose factors' values the masks hide

  left_word : (i u u' o : ℕ) → i < triple_count n
      → Cong (modulus n) (u + o) (left_value s i) → Cong (modulus n) (u' + o) (left_value s' i)
      → masked n u (triple_left (section n 2 own) i) ≡ masked n u' (triple_left (section n 2 t) i)
  unfolding new_left
  left_word i u u' o less h h' =
      sym (moved_same n l u u' o (left_value s i) (left_value s' i) (triple_left (section n 2 own) i) (left_most s l i) (triple_left_below (own_readable m) i less) h h')
      ∙ ap (λ (a : ℕ). masked n u' a) (sym (new_left_lem s s' own others i less))

  abbrev old : ℕ → ℕ
  old g = group_inverse n (section n 1 own) g

  right_word : (i u u' o : ℕ) → i < triple_count n
      → Cong (modulus n) (u + o) (right_value s old i) → Cong (modulus n) (u' + o) (right_value s' (new_inverse s s' own others) i)
      → masked n u (triple_right (section n 2 own) i) ≡ masked n u' (triple_right (section n 2 t) i)
  unfolding new_right
  right_word i u u' o less h h' =
      sym
      (moved_same n l u u' o (right_value s old i) (right_value s' (new_inverse s s' own others) i) (triple_right (section n 2 own) i)
      (right_most s l old (λ g lg. le_of_lt (group_inverse_below (own_readable m) g lg)) i) (triple_right_below (own_readable m) i less) h h')
      ∙ ap (λ (a : ℕ). masked n u' a) (sym (new_right_lem s s' own others i less))

  -- the box's own share, with no other
  alone : (u v : ℕ) → u ≡ v → Cong (modulus n) (u + 0) v
  alone u v e = cong_eq (omega arith)

  -- ---- round 1

  low_left : (q : Shares) (k : ℕ) → k < 3 → left_value q (low_triple q.n + k) ≡ constant_share q.side (low_of q k)
  low_left q k less =
      left_later q (low_triple q.n + k) k refl
      ∙ each_test (λ k. get_or (left_values q) k 0 ≡ constant_share q.side (low_of q k)) refl refl refl k less

  low_right : (q : Shares) (f : ℕ → ℕ) (k : ℕ) → k < 3 → right_value q f (low_triple q.n + k) ≡ constant_share (other q.side) (low_of q k)
  low_right q f k less =
      right_later q f (low_triple q.n + k) k refl
      ∙ each_test (λ k. get_or (right_values q) k 0 ≡ constant_share (other q.side) (low_of q k)) refl refl refl k less

  pub round_1 : (v v' : List ℕ) → message own_box v 1 ≡ message own_box' v' 1
  unfolding message square_word new_mask low_products open_left open_right
  round_1 v v' =
      ap₂ ◌++◌
      (tabulate_same (square_count n) (square_word own_box) (square_word own_box')
      (λ j less.
      sym (moved_own n l (square_share_of s j) (square_share_of s' j) (square_mask (section n 0 own) j) (square_share_most s l j) (square_mask_below (own_readable m) j less))
      ∙ ap (λ (a : ℕ). masked n (square_share_of s' j) a) (sym (new_mask_lem s s' own others j less))))
      (openings_same own_box own_box' (low_products own_box) (low_products own_box') refl
      (λ k less.
      left_word (low_triple n + k) _ _ 0 (omega arith)
      (alone _ _ (sym (low_left s k less))) (alone _ _ (sym (low_left s' k less))))
      (λ k less.
      right_word (low_triple n + k) _ _ 0 (omega arith)
      (alone _ _ (sym (low_right s old k less))) (alone _ _ (sym (low_right s' (new_inverse s s' own others) k less)))))

  -- ---- the later rounds: v and v' are the box's work in the two runs, u and u' the other box's, which holds the same
  module _ (v v' u u' : List ℕ) where
    -- what both hold in a slot adds up, in either run
    abbrev Old : ℕ → ℕ → Type 0
    Old slot value = Cong (modulus n) (held n v slot + held n u slot) value

    abbrev New : ℕ → ℕ → Type 0
    New slot value = Cong (modulus n) (held n v' slot + held n u' slot) value

    abbrev Kept : ℕ → Type 0
    Kept slot = held n u slot ≡ held n u' slot

    -- the other box's word of the first run serves in the second
    as_kept : (slot value value' : ℕ) → Kept slot → New slot value → value ≡ value' → Cong (modulus n) (held n v' slot + held n u slot) value'
    as_kept slot value value' kept h e = cong_eq (ap (λ (k : ℕ). held n v' slot + k) kept) ⊙ h ⊙ cong_eq e

    pub round_2 : ((g : ℕ) → g < group_count n → Old g (count_of s g)) → ((g : ℕ) → g < group_count n → New g (count_of s' g))
        → ((g : ℕ) → g < group_count n → Kept g)
        → message own_box v 2 ≡ message own_box' v' 2
    unfolding message level_products open_left open_right
    round_2 h h' kept =
        openings_same own_box own_box' (level_products own_box v) (level_products own_box' v') refl
        (λ g less.
        let place : 0 + g ≡ g = omega arith in
        rw place
        (left_word g (held n v g) (held n v' g) (held n u g) (omega arith)
        (h g less ⊙ cong_eq (sym (left_level s g less)))
        (as_kept g _ _ (kept g less) (h' g less) (sym (left_level s' g less)))))
        (λ g less.
        let place : 0 + g ≡ g = omega arith in
        rw place
        (right_word g (group_inverse n (section n 1 own) g) (group_inverse n (section n 1 t) g) 0 (omega arith)
        (alone _ _ (sym (right_level s old g less)))
        (alone _ _ (new_inverse_lem s s' own others g less ∙ sym (right_level s' (new_inverse s s' own others) g less)))))

    -- d is the same: A' · w' = A · w
    pub round_3 : ((g : ℕ) → g < group_count n → Old g (count_of s g * inverse_total n own others g))
        → ((g : ℕ) → g < group_count n → New g (count_of s' g * inverse_total n t others g))
        → ((g : ℕ) → g < group_count n → Kept g)
        → message own_box v 3 ≡ message own_box' v' 3
    unfolding message
    round_3 h h' kept = tabulate_same (group_count n) (λ g. held n v g) (λ g. held n v' g) same
      where
        product : (g : ℕ) → g < group_count n → Cong (modulus n) (count_of s' g * inverse_total n t others g) (count_of s g * inverse_total n own others g)
        product g less =
            cong_mul cong_refl
            (cong_eq (ap (λ (k : ℕ). k + group_inverse n (section n 1 others) g) (new_inverse_lem s s' own others g less)) ⊙ inverse_total_lem m x y x' y' xo yo g less)
            ⊙ cong_eq {b = (count_of s' g * down m x y x' y' xo yo g) * inverse_total n own others g} (omega arith)
            ⊙ cong_mul (restored n l (count_of s g) (count_of s' g) (count_low s g) (count_high s g) (count_low s' g) (count_high s' g)) cong_refl

        same : (g : ℕ) → g < group_count n → held n v g ≡ held n v' g
        same g less =
            cong_unique (held_below n v g l) (held_below n v' g l)
            (cong_cancel (held n u g) (omega (arith, bounds l))
            (h g less ⊙ cong_sym (as_kept g _ _ (kept g less) (h' g less) refl ⊙ product g less)))

    pub round_4 : ((k : ℕ) → k < 3 → Old (sum_slot n k) (sum_of s k)) → ((k : ℕ) → k < 3 → New (sum_slot n k) (sum_of s' k))
        → ((k : ℕ) → k < 3 → Old (wrap_slot n k) (wraps_of s k)) → ((k : ℕ) → k < 3 → New (wrap_slot n k) (wraps_of s' k))
        → ((k : ℕ) → k < 3 → Kept (sum_slot n k)) → ((k : ℕ) → k < 3 → Kept (wrap_slot n k))
        → message own_box v 4 ≡ message own_box' v' 4
    unfolding message wrap_products open_left open_right
    round_4 hs hs' hw hw' ks kw =
        openings_same own_box own_box' (wrap_products own_box v) (wrap_products own_box' v') refl
        (λ k less.
        left_word (wrap_triple n + k) _ _ (held n u (sum_slot n k)) (omega arith)
        (hs k less ⊙ cong_eq (sym (sum_left s k less)))
        (as_kept (sum_slot n k) _ _ (ks k less) (hs' k less) (sym (sum_left s' k less))))
        (λ k less.
        right_word (wrap_triple n + k) _ _ (held n u (wrap_slot n k)) (omega arith)
        (hw k less ⊙ cong_eq (sym (wrap_right s old k less)))
        (as_kept (wrap_slot n k) _ _ (kw k less) (hw' k less) (sym (wrap_right s' (new_inverse s s' own others) k less))))
      where
        sum_left : (q : Shares) (k : ℕ) → k < 3 → left_value q (wrap_triple q.n + k) ≡ sum_of q k
        sum_left q k less =
            left_later q (wrap_triple q.n + k) (3 + k) (omega arith)
            ∙ each_test (λ k. get_or (left_values q) (3 + k) 0 ≡ sum_of q k) refl refl refl k less

        wrap_right : (q : Shares) (f : ℕ → ℕ) (k : ℕ) → k < 3 → right_value q f (wrap_triple q.n + k) ≡ wraps_of q k
        wrap_right q f k less =
            right_later q f (wrap_triple q.n + k) (3 + k) (omega arith)
            ∙ each_test (λ k. get_or (right_values q) (3 + k) 0 ≡ wraps_of q k) refl refl refl k less

    pub round_last : ((k : ℕ) → k < 3 → Old (half_slot n k) (halves_of s k)) → ((k : ℕ) → k < 3 → New (half_slot n k) (halves_of s' k))
        → ((k : ℕ) → k < 3 → Kept (half_slot n k))
        → message own_box v last_round ≡ message own_box' v' last_round
    unfolding message half_word half_opening new_last
    round_last h h' kept =
        tabulate_same 3 (half_word own_box v) (half_word own_box' v')
        (λ k less.
        sym (moved_same n l _ _ (held n u (half_slot n k)) (halves_of s k) (halves_of s' k) (last_letter n (section n 2 own) k)
        (half_most s l k) (last_below (own_readable m) k (omega arith)) (h k less) (as_kept (half_slot n k) _ _ (kept k less) (h' k less) refl))
        ∙ ap (λ (a : ℕ). masked n (held n v' (half_slot n k)) a) (sym (mask_word m x y x' y' xo yo k less)))
