-- The map for (s', s) undoes the map for (s, s') on tapes dealt by the rules.
use Prim.Native.Nat.{ℕ, zero, suc, ◌+◌, ◌*◌, ◌/◌, ◌%◌, ◌<◌, ◌≤◌}
use mathlib.Core.Path.{◌≡◌, refl, sym, ap, ap₂, ◌∙◌}
use mathlib.Core.Bool.{true}
use mathlib.Core.List.{List, ◌++◌}
use native.Mathlib.Nat.{le_of_lt, zero-add, div-add-mod', div-lt_iff_lt-mul, mod-lt}
use native.Mathlib.Omega.{arith}
use lib.Dec.{eqb-suc-zero}
use lib.ListN.{length, get_or, take, drop, length-drop, take-append-drop}
use lib.Seq.{drop-drop, length-take-le, get_or-take, get_or-drop}
use Rattle.lists.specs.Tabulate.{tabulate}
use Rattle.lists.proofs.Tabulate.{tabulated}
use Rattle.field.proofs.Subtraction.{minus_below, minus_unique}
use Rattle.field.specs.Width.{listed, modulus}
use Rattle.field.specs.Congruence.{Cong}
use Rattle.field.proofs.Congruences.{cong_refl, cong_eq, cong_sym, ◌⊙◌, cong_mul, cong_pow}
use Rattle.tape.specs.Layout.{section, section_length, section_start, body_length, square_count, group_count, triple_count}
use Rattle.tape.specs.Letters.{square_mask, square_value, group_inverse, group_power, triple_left, triple_right, triple_product, last_letter}
use Rattle.tape.specs.Dealt.{last_sum, Matched}
use Rattle.tape.proofs.Sections.{section_length_lem, body_whole}
use Rattle.tape.proofs.Letters.{square_mask_below, square_value_below, group_inverse_below, group_power_below, triple_left_below, triple_right_below, triple_product_below, last_below}
use Rattle.tape.proofs.Dealing.{own_readable, others_readable, dealt_square, dealt_triple, dealt_last, dealt_power}
use Rattle.protocol.proofs.Wraps.{inverse_total, mask_total, pow_times}
use Rattle.protocol.specs.Change.{Shares, shares_of, square_share_of, left_value, halves_of}
use Rattle.protocol.specs.Shift.{moved, new_mask, new_value, new_inverse, new_power, new_left, new_right, new_product, new_last, new_last_product, new_sum, by_row, square_row, power_row, triple_row, last_row, shifted}
use Rattle.protocol.proofs.Moves.{moved_back}
use Rattle.protocol.proofs.Pieces.{new_mask_lem, new_inverse_lem, new_power_lem, new_left_lem, new_right_lem, last_word, shifted_tail}
use Rattle.protocol.proofs.Rules.{down, up, units, inverse_total_lem, power_total}
use Rattle.protocol.proofs.Bounds.{square_share_most, left_most, right_most, right_same, half_most}

-- a tape is its three sections and its trailer
pieces : (n : ℕ) (t : List ℕ) → t ≡ section n 0 t ++ (section n 1 t ++ (section n 2 t ++ drop (body_length n) t))
unfolding section
pieces n t =
    let a = section_start n 1 in
    let b = section_start n 2 in
    let three : drop b t ≡ section n 2 t ++ drop (body_length n) t =
    sym (take-append-drop (section_length n 2) (drop b t))
    ∙ ap (λ (r : List ℕ). section n 2 t ++ r) (drop-drop (section_length n 2) b t ∙ ap (λ (k : ℕ). drop k t) (body_whole n)) in
    let two : drop a t ≡ section n 1 t ++ (section n 2 t ++ drop (body_length n) t) =
    sym (take-append-drop (section_length n 1) (drop a t))
    ∙ ap (λ (r : List ℕ). section n 1 t ++ r) (drop-drop (section_length n 1) a t ∙ three) in
    sym (take-append-drop (section_length n 0) t)
    ∙ ap (λ (r : List ℕ). section n 0 t ++ r) (ap (λ (k : ℕ). drop k t) (sym (zero-add (section_length n 0))) ∙ two)

module _ {n pair number side : ℕ} {own others : List ℕ} (m : Matched n pair number side own others) (x y x' y' xo yo : ℕ) where
  abbrev s : Shares
  s = shares_of n side x y xo yo

  abbrev s' : Shares
  s' = shares_of n side x' y' xo yo

  abbrev t : List ℕ
  t = shifted s s' own others

  l : listed n ≡ true
  l = (own_readable m).width

  -- ---- letter by letter

  mask_back : (j : ℕ) → j < square_count n → new_mask s' s t others j ≡ square_mask (section n 0 own) j
  unfolding new_mask
  mask_back j less =
      ap (λ (a : ℕ). moved n a (square_share_of s' j) (square_share_of s j)) (new_mask_lem s s' own others j less)
      ∙ moved_back n l _ _ _ (square_share_most s l j) (square_share_most s' l j) (square_mask_below (own_readable m) j less)

  value_back : (j : ℕ) → j < square_count n → new_value s' s t others j ≡ square_value (section n 0 own) j
  unfolding new_value
  value_back j less =
      rw (mask_back j less)
      (minus_unique n _ _ _ l (le_of_lt (square_value_below (others_readable m) j less)) (square_value_below (own_readable m) j less)
      (dealt_square m j less).square)

  inverse_back : (g : ℕ) → g < group_count n → new_inverse s' s t others g ≡ group_inverse n (section n 1 own) g
  unfolding new_inverse
  inverse_back g less =
      minus_unique n _ _ _ l (le_of_lt (group_inverse_below (others_readable m) g less)) (group_inverse_below (own_readable m) g less)
      (cong_sym
      (cong_mul (cong_eq (ap (λ (w : ℕ). w + group_inverse n (section n 1 others) g) (new_inverse_lem s s' own others g less)) ⊙ inverse_total_lem m x y x' y' xo yo g less) cong_refl
      ⊙ cong_eq {b = inverse_total n own others g * (down m x y x' y' xo yo g * up m x y x' y' xo yo g)} (omega arith)
      ⊙ cong_mul cong_refl (units m x y x' y' xo yo g)
      ⊙ cong_eq (omega arith)))

  power_back : (g k : ℕ) → g < group_count n → 1 ≤ k → k ≤ n → new_power s' s t others g k ≡ group_power n (section n 1 own) g k
  unfolding new_power
  power_back g k less low high =
      let r = mask_total n own others g in
      let d = down m x y x' y' xo yo g in
      let u = up m x y x' y' xo yo g in
      minus_unique n _ _ _ l (le_of_lt (group_power_below (others_readable m) g k less high)) (group_power_below (own_readable m) g k less high)
      (dealt_power m g k less low high
      ⊙ cong_sym
      (cong_mul (cong_eq (ap (λ (w : ℕ). w + group_power n (section n 1 others) g k) (new_power_lem s s' own others g k less low high)) ⊙ power_total m x y x' y' xo yo g k less low high) cong_refl
      ⊙ cong_eq (sym (pow_times (r * u) d k))
      ⊙ cong_pow k (cong_eq {b = r * (d * u)} (omega arith) ⊙ cong_mul cong_refl (units m x y x' y' xo yo g) ⊙ cong_eq (omega arith))))

  left_back : (i : ℕ) → i < triple_count n → new_left s' s t others i ≡ triple_left (section n 2 own) i
  unfolding new_left
  left_back i less =
      ap (λ (a : ℕ). moved n a (left_value s' i) (left_value s i)) (new_left_lem s s' own others i less)
      ∙ moved_back n l _ _ _ (left_most s l i) (left_most s' l i) (triple_left_below (own_readable m) i less)

  right_back : (i : ℕ) → i < triple_count n → new_right s' s t others i ≡ triple_right (section n 2 own) i
  unfolding new_right new_inverse
  right_back i less =
      let f : ℕ → ℕ = λ g. group_inverse n (section n 1 own) g in
      let h : ℕ → ℕ = new_inverse s s' own others in
      rw (
        new_right_lem s s' own others i less,
        right_same s' (λ g. group_inverse n (section n 1 t) g) h (λ g lg. new_inverse_lem s s' own others g lg) i,
        right_same s (new_inverse s' s t others) f inverse_back i,
      )
      (moved_back n l _ _ _ (right_most s l f (λ g lg. le_of_lt (group_inverse_below (own_readable m) g lg)) i)
      (right_most s' l h (λ g lg. le_of_lt (minus_below n _ _ l)) i)
      (triple_right_below (own_readable m) i less))

  product_back : (i : ℕ) → i < triple_count n → new_product s' s t others i ≡ triple_product (section n 2 own) i
  unfolding new_product
  product_back i less =
      rw (left_back i less, right_back i less)
      (minus_unique n _ _ _ l (le_of_lt (triple_product_below (others_readable m) i less)) (triple_product_below (own_readable m) i less)
      (dealt_triple m i less).product)

  -- the new masks stand on the shifted tape
  pub mask_word : (k : ℕ) → k < 3 → last_letter n (section n 2 t) k ≡ new_last s s' own others k
  unfolding last_row
  mask_word zero less = last_word s s' own others 0
  mask_word (suc zero) less = last_word s s' own others 1
  mask_word (suc (suc zero)) less = last_word s s' own others 2
  mask_word (suc (suc (suc k))) less = absurd (omega arith)

  last_back : (k : ℕ) → k < 3 → new_last s' s t others k ≡ last_letter n (section n 2 own) k
  unfolding new_last
  last_back k less =
      ap (λ (a : ℕ). moved n a (halves_of s' k) (halves_of s k)) (mask_word k less)
      ∙ moved_back n l _ _ _ (half_most s l k) (half_most s' l k) (last_below (own_readable m) k (omega arith))

  -- a product that both boxes' words come to is what is left for the box
  last_product_back : (product k : ℕ) → k < 7
      → Cong (modulus n) (last_letter n (section n 2 own) k + last_letter n (section n 2 others) k) product
      → new_last_product s' s t others product k ≡ last_letter n (section n 2 own) k
  unfolding new_last_product
  last_product_back product k less =
      minus_unique n _ _ _ l (le_of_lt (last_below (others_readable m) k less)) (last_below (own_readable m) k less)

  sum_back : (k : ℕ) → k < 3 → new_sum s' s t others k ≡ last_sum n own others k
  sum_back k less = ap (λ (a : ℕ). a + last_letter n (section n 2 others) k) (last_back k less)

  -- the last group of the tape
  last_row_back : (k : ℕ) → k < 7 → get_or (last_row s' s t others) k 0 ≡ last_letter n (section n 2 own) k
  unfolding last_row
  last_row_back k less =
      by_place k less
    where
      a : new_sum s' s t others 0 ≡ last_sum n own others 0
      a = sum_back 0 (omega arith)

      b : new_sum s' s t others 1 ≡ last_sum n own others 1
      b = sum_back 1 (omega arith)

      c : new_sum s' s t others 2 ≡ last_sum n own others 2
      c = sum_back 2 (omega arith)

      by_place : (k : ℕ) → k < 7 → get_or (last_row s' s t others) k 0 ≡ last_letter n (section n 2 own) k
      by_place zero less = last_back 0 (omega arith)
      by_place (suc zero) less = last_back 1 (omega arith)
      by_place (suc (suc zero)) less = last_back 2 (omega arith)
      by_place (suc (suc (suc zero))) less = rw (a, b) (last_product_back _ 3 (omega arith) (dealt_last m).ab.product)
      by_place (suc (suc (suc (suc zero)))) less = rw (a, c) (last_product_back _ 4 (omega arith) (dealt_last m).ac.product)
      by_place (suc (suc (suc (suc (suc zero))))) less = rw (b, c) (last_product_back _ 5 (omega arith) (dealt_last m).bc.product)
      by_place (suc (suc (suc (suc (suc (suc zero)))))) less = rw (a, b, c) (last_product_back _ 6 (omega arith) (dealt_last m).abc)
      by_place (suc (suc (suc (suc (suc (suc (suc k))))))) less = absurd (omega arith)

  -- ---- section by section

  -- words that stand in rows, from the words of each row
  rows : (ws : List ℕ) (stride count : ℕ) (row : ℕ → ℕ → ℕ) → 0 < stride → length ws ≡ count * stride
      → ((i k at : ℕ) → at ≡ i * stride + k → i < count → k < stride → get_or ws at 0 ≡ row i k)
      → ws ≡ tabulate (count * stride) (by_row stride row)
  rows ws stride count row pos long each =
      tabulated ws (count * stride) (by_row stride row) long
      (λ j less. each (j / stride) (j % stride) j (sym (div-add-mod' j stride)) ((div-lt_iff_lt-mul {k = stride} pos).1 less) (mod-lt j pos))

  square_word_lem : (i k at : ℕ) → at ≡ i * 2 + k → i < square_count n → k < 2 → get_or (section n 0 own) at 0 ≡ square_row s' s t others i k
  square_word_lem i zero at e li lk = ap (λ (a : ℕ). get_or (section n 0 own) a 0) (omega arith) ∙ sym (mask_back i li)
  square_word_lem i (suc zero) at e li lk = ap (λ (a : ℕ). get_or (section n 0 own) a 0) (omega arith) ∙ sym (value_back i li)
  square_word_lem i (suc (suc k)) at e li lk = absurd (omega arith)

  power_word : (g k at : ℕ) → at ≡ g * (n + 1) + k → g < group_count n → k < n + 1 → get_or (section n 1 own) at 0 ≡ power_row s' s t others g k
  power_word g zero at e lg lk = ap (λ (a : ℕ). get_or (section n 1 own) a 0) (omega (arith, e)) ∙ sym (inverse_back g lg)
  power_word g (suc k) at e lg lk =
      rw (eqb-suc-zero k)
      (ap (λ (a : ℕ). get_or (section n 1 own) a 0) e ∙ sym (power_back g (suc k) lg (omega arith) (omega arith)))

  triple_word : (i k at : ℕ) → at ≡ i * 3 + k → i < triple_count n → k < 3 → get_or (section n 2 own) at 0 ≡ triple_row s' s t others i k
  triple_word i zero at e li lk = ap (λ (a : ℕ). get_or (section n 2 own) a 0) (omega arith) ∙ sym (left_back i li)
  triple_word i (suc zero) at e li lk = ap (λ (a : ℕ). get_or (section n 2 own) a 0) (omega arith) ∙ sym (right_back i li)
  triple_word i (suc (suc zero)) at e li lk = ap (λ (a : ℕ). get_or (section n 2 own) a 0) (omega arith) ∙ sym (product_back i li)
  triple_word i (suc (suc (suc k))) at e li lk = absurd (omega arith)

  -- the last section: the triples, then the last group
  abbrev behind : ℕ
  behind = triple_count n * 3

  last_long : length (section n 2 own) ≡ behind + 7
  last_long = section_length_lem (own_readable m) 2 (omega arith)

  triples_back : take behind (section n 2 own) ≡ tabulate behind (by_row 3 (triple_row s' s t others))
  triples_back =
      rows (take behind (section n 2 own)) 3 (triple_count n) (triple_row s' s t others) (omega arith)
      (length-take-le behind (section n 2 own) (omega (arith, last_long)))
      (λ i k at e li lk. get_or-take behind (section n 2 own) at 0 (omega arith) ∙ triple_word i k at e li lk)

  group_back : drop behind (section n 2 own) ≡ last_row s' s t others
  unfolding last_row
  group_back =
      let word : ℕ → ℕ = λ k. get_or (last_row s' s t others) k 0 in
      tabulated (drop behind (section n 2 own)) 7 word (length-drop behind (section n 2 own) ∙ omega (arith, last_long))
      (λ k less. get_or-drop behind (section n 2 own) k 0 ∙ sym (last_row_back k less))
      ∙ sym (tabulated (last_row s' s t others) 7 word refl (λ k less. refl))

  section_back : section n 2 own ≡ tabulate behind (by_row 3 (triple_row s' s t others)) ++ last_row s' s t others
  section_back = sym (take-append-drop behind (section n 2 own)) ∙ ap₂ ◌++◌ triples_back group_back

  pub undone : shifted s' s (shifted s s' own others) others ≡ own
  unfolding shifted
  undone =
      sym
      (pieces n own
      ∙ rw (
        rows (section n 0 own) 2 (square_count n) _ (omega arith) (section_length_lem (own_readable m) 0 (omega arith)) square_word_lem,
        rows (section n 1 own) (n + 1) (group_count n) _ (omega arith) (section_length_lem (own_readable m) 1 (omega arith)) power_word,
        section_back,
        shifted_tail s s' own others,
      ))
