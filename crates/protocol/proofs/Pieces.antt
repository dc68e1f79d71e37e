-- The shifted tape by its letters: each is the new word, and the trailer is the old one.
use Prim.Native.Nat.{ℕ, ◌+◌, ◌-◌, ◌*◌, ◌/◌, ◌%◌, ◌<◌, ◌≤◌}
use mathlib.Core.Path.{◌≡◌, sym, ap, ap₂, ◌∙◌}
use mathlib.Core.Bool.{Bool, true, false, cond}
use mathlib.Core.List.{List, [], ◌∷◌, ◌++◌, append_assoc}
use mathlib.Core.Logic.{◌⊎◌, inl, inr}
use native.Mathlib.Omega.{arith}
use lib.Arith.{digits_div, digits_mod}
use borrow.Author.Tests.{ne_eqb}
use lib.Dec.{eqb, ltb}
use lib.ListN.{length, get_or, take, drop, length-append, length-drop, get_or-append}
use lib.Seq.{take_at, drop_at, get_or-append-add, get_or-drop}
use Rattle.lists.specs.Tabulate.{tabulate}
use Rattle.lists.proofs.Tabulate.{length_tabulate, get_d_tabulate}
use Rattle.field.specs.Subtraction.{minus}
use Rattle.field.proofs.Subtraction.{minus_below}
use Rattle.field.specs.Width.{modulus, listed}
use Rattle.field.proofs.Widths.{bounds}
use Rattle.tape.specs.Layout.{section, section_length, section_start, body_length, tape_length, square_count, group_count, triple_count}
use Rattle.tape.specs.Letters.{square_mask, square_value, group_inverse, group_power, triple_left, triple_right, triple_product, last_letter}
use Rattle.tape.proofs.Letters.{square_place, group_place}
use Rattle.encoding.specs.Matching.{indicator}
use Rattle.protocol.proofs.Halves.{less_cases}
use Rattle.protocol.specs.Change.{Shares}
use Rattle.protocol.specs.Shift.{new_mask, new_value, new_inverse, new_power, new_left, new_right, new_product, new_last, new_last_product, by_row, square_row, power_row, triple_row, last_row, shifted}
use Rattle.protocol.proofs.ByRound.{each_at}
use Rattle.protocol.proofs.Moves.{moved_below}

module _ (s s' : Shares) (own others : List ℕ) where
  abbrev n : ℕ
  n = s.n

  abbrev S : List ℕ
  S = tabulate (section_length n 0) (by_row 2 (square_row s s' own others))

  abbrev P : List ℕ
  P = tabulate (section_length n 1) (by_row (n + 1) (power_row s s' own others))

  abbrev T : List ℕ
  T = tabulate (triple_count n * 3) (by_row 3 (triple_row s s' own others))

  -- the triples, then the last group
  abbrev Q : List ℕ
  Q = T ++ last_row s s' own others

  triples_length : length T ≡ triple_count n * 3
  triples_length = length_tabulate (triple_count n * 3) (by_row 3 (triple_row s s' own others))

  last_length_lem : length Q ≡ section_length n 2
  unfolding last_row
  last_length_lem = length-append T (last_row s s' own others) ∙ omega (arith, triples_length)

  abbrev R : List ℕ
  R = drop (body_length n) own

  section_0 : section n 0 (shifted s s' own others) ≡ S
  unfolding section shifted
  section_0 = take_at S (P ++ (Q ++ R)) (section_length n 0) (length_tabulate (section_length n 0) _)

  section_1 : section n 1 (shifted s s' own others) ≡ P
  unfolding section shifted
  section_1 =
      ap (λ (l : List ℕ). take (section_length n 1) l)
      (drop_at S (P ++ (Q ++ R)) (section_start n 1) (length_tabulate (section_length n 0) _ ∙ omega arith))
      ∙ take_at P (Q ++ R) (section_length n 1) (length_tabulate (section_length n 1) _)

  section_2 : section n 2 (shifted s s' own others) ≡ Q
  unfolding section shifted
  section_2 =
      ap (λ (l : List ℕ). take (section_length n 2) (drop (section_start n 2) l)) (sym (append_assoc S P (Q ++ R)))
      ∙ ap (λ (l : List ℕ). take (section_length n 2) l)
      (drop_at (S ++ P) (Q ++ R) (section_start n 2)
      (length-append S P
      ∙ ap₂ ◌+◌ (length_tabulate (section_length n 0) _) (length_tabulate (section_length n 1) _)
      ∙ omega arith))
      ∙ take_at Q R (section_length n 2) last_length_lem

  last_inside : (k : ℕ) → k < 7 → k < length (last_row s s' own others)
  unfolding last_row
  last_inside k less = less

  -- the body is as long as before
  body_length_lem : length (S ++ (P ++ Q)) ≡ body_length n
  body_length_lem =
      length-append S (P ++ Q)
      ∙ ap (λ (k : ℕ). length S + k) (length-append P Q)
      ∙ omega (arith, length_tabulate (section_length n 0) (by_row 2 (square_row s s' own others)), length_tabulate (section_length n 1) (by_row (n + 1) (power_row s s' own others)), last_length_lem)

  body_first : shifted s s' own others ≡ (S ++ (P ++ Q)) ++ R
  unfolding shifted
  body_first = sym (append_assoc S (P ++ Q) R ∙ ap (λ (l : List ℕ). S ++ l) (append_assoc P Q R))

  pub shifted_length : length own ≡ tape_length n → length (shifted s s' own others) ≡ tape_length n
  shifted_length e =
      ap length body_first
      ∙ length-append (S ++ (P ++ Q)) R
      ∙ omega (arith, body_length_lem, length-drop (body_length n) own)

  -- the trailer stays
  pub shifted_trailer : (k : ℕ) → get_or (shifted s s' own others) (body_length n + k) 0 ≡ get_or own (body_length n + k) 0
  shifted_trailer k =
      ap (λ (l : List ℕ). get_or l (body_length n + k) 0) body_first
      ∙ ap (λ (j : ℕ). get_or ((S ++ (P ++ Q)) ++ R) (j + k) 0) (sym body_length_lem)
      ∙ get_or-append-add (S ++ (P ++ Q)) R k 0
      ∙ get_or-drop (body_length n) own k 0

  pub shifted_tail : drop (body_length n) (shifted s s' own others) ≡ drop (body_length n) own
  shifted_tail = ap (λ (l : List ℕ). drop (body_length n) l) body_first ∙ drop_at (S ++ (P ++ Q)) R (body_length n) body_length_lem

  -- ---- the letters

  -- word k of row i
  row_at : (count stride : ℕ) (row : ℕ → ℕ → ℕ) (i k at : ℕ) → at ≡ i * stride + k → k < stride → at < count
      → get_or (tabulate count (by_row stride row)) at 0 ≡ row i k
  row_at count stride row i k at e few inside =
      get_d_tabulate count (by_row stride row) at 0 inside ∙ rw (e, digits_mod i few, digits_div i few)

  row_word : (which stride : ℕ) (row : ℕ → ℕ → ℕ) → section n which (shifted s s' own others) ≡ tabulate (section_length n which) (by_row stride row)
      → (i k at : ℕ) → at ≡ i * stride + k → k < stride → at < section_length n which
      → get_or (section n which (shifted s s' own others)) at 0 ≡ row i k
  row_word which stride row made i k at e few inside =
      ap (λ (l : List ℕ). get_or l at 0) made ∙ row_at (section_length n which) stride row i k at e few inside

  -- word k of triple i, and of the last group
  triple_word : (i k at : ℕ) → at ≡ i * 3 + k → k < 3 → i < triple_count n
      → get_or (section n 2 (shifted s s' own others)) at 0 ≡ triple_row s s' own others i k
  triple_word i k at e few less =
      ap (λ (l : List ℕ). get_or l at 0) section_2
      ∙ get_or-append T (last_row s s' own others) 0 at (omega (arith, triples_length))
      ∙ row_at (triple_count n * 3) 3 (triple_row s s' own others) i k at e few (omega arith)

  pub last_word : (k : ℕ) → last_letter n (section n 2 (shifted s s' own others)) k ≡ get_or (last_row s s' own others) k 0
  last_word k =
      ap (λ (l : List ℕ). get_or l (triple_count n * 3 + k) 0) section_2
      ∙ ap (λ (j : ℕ). get_or Q (j + k) 0) (sym triples_length)
      ∙ get_or-append-add T (last_row s s' own others) k 0

  pub new_mask_lem : (j : ℕ) → j < square_count n → square_mask (section n 0 (shifted s s' own others)) j ≡ new_mask s s' own others j
  new_mask_lem j less = row_word 0 2 (square_row s s' own others) section_0 j 0 (j * 2) (omega arith) (omega arith) (omega (arith, square_place n j less))

  pub new_value_lem : (j : ℕ) → j < square_count n → square_value (section n 0 (shifted s s' own others)) j ≡ new_value s s' own others j
  new_value_lem j less = row_word 0 2 (square_row s s' own others) section_0 j 1 (j * 2 + 1) (omega arith) (omega arith) (square_place n j less)

  pub new_inverse_lem : (g : ℕ) → g < group_count n → group_inverse n (section n 1 (shifted s s' own others)) g ≡ new_inverse s s' own others g
  new_inverse_lem g less =
      row_word 1 (n + 1) (power_row s s' own others) section_1 g 0 (g * (n + 1)) (omega arith) (omega arith)
      (omega (arith, group_place n g 0 less (omega arith)))

  pub new_power_lem : (g k : ℕ) → g < group_count n → 1 ≤ k → k ≤ n
      → group_power n (section n 1 (shifted s s' own others)) g k ≡ new_power s s' own others g k
  new_power_lem g k less low high =
      row_word 1 (n + 1) (power_row s s' own others) section_1 g k (g * (n + 1) + k) (omega arith) (omega arith) (group_place n g k less high)
      ∙ rw (ne_eqb k 0 (λ e. omega arith))

  pub new_left_lem : (i : ℕ) → i < triple_count n → triple_left (section n 2 (shifted s s' own others)) i ≡ new_left s s' own others i
  new_left_lem i less = triple_word i 0 (i * 3) (omega arith) (omega arith) less

  pub new_right_lem : (i : ℕ) → i < triple_count n → triple_right (section n 2 (shifted s s' own others)) i ≡ new_right s s' own others i
  new_right_lem i less = triple_word i 1 (i * 3 + 1) (omega arith) (omega arith) less

  pub new_product_lem : (i : ℕ) → i < triple_count n → triple_product (section n 2 (shifted s s' own others)) i ≡ new_product s s' own others i
  new_product_lem i less = triple_word i 2 (i * 3 + 2) (omega arith) (omega arith) less

  -- ---- every word of the body is below p

  module _ (l : listed n ≡ true) where
    choice_below : (t : Bool) {a b p : ℕ} → a < p → b < p → cond t a b < p
    choice_below true la lb = la
    choice_below false la lb = lb

    squares_below : (j : ℕ) → by_row 2 (square_row s s' own others) j < modulus n
    unfolding new_mask new_value
    squares_below j = choice_below (eqb (j % 2) 0) (moved_below n l _ _ _) (minus_below n _ _ l)

    powers_below : (j : ℕ) → by_row (n + 1) (power_row s s' own others) j < modulus n
    unfolding new_inverse new_power
    powers_below j = choice_below (eqb (j % (n + 1)) 0) (minus_below n _ _ l) (minus_below n _ _ l)

    triples_below : (j : ℕ) → by_row 3 (triple_row s s' own others) j < modulus n
    unfolding new_left new_right new_product
    triples_below j =
        let i = j / 3 in
        each_at (λ (word : ℕ). word < modulus n) (new_left s s' own others i ∷ new_right s s' own others i ∷ new_product s s' own others i ∷ []) 0
        (moved_below n l _ _ _, (moved_below n l _ _ _, (minus_below n _ _ l, tt))) (omega (arith, bounds l)) (j % 3)

    last_below : (k : ℕ) → get_or (last_row s s' own others) k 0 < modulus n
    unfolding last_row new_last new_last_product
    last_below k =
        let product : (a b : ℕ) → minus n a b < modulus n = λ a b. minus_below n a b l in
        each_at (λ (word : ℕ). word < modulus n) (last_row s s' own others) 0
        (moved_below n l _ _ _, (moved_below n l _ _ _, (moved_below n l _ _ _, (product _ _, (product _ _, (product _ _, (product _ _, tt)))))))
        (omega (arith, bounds l)) k

    -- a word of a tabulated list, or of what stands behind it
    tabulated_below : (count : ℕ) (f : ℕ → ℕ) (rest : List ℕ) → ((i : ℕ) → f i < modulus n)
        → (i : ℕ) → (count ≤ i → get_or rest (i - count) 0 < modulus n) → get_or (tabulate count f ++ rest) i 0 < modulus n
    tabulated_below count f rest below i behind = go (less_cases i count)
      where
        go : ((indicator (ltb i count) ≡ 1) × (i < count)) ⊎ ((indicator (ltb i count) ≡ 0) × (count ≤ i)) → get_or (tabulate count f ++ rest) i 0 < modulus n
        go (inl (one, less)) =
            rw (get_or-append (tabulate count f) rest 0 i (rw (length_tabulate count f) less), get_d_tabulate count f i 0 less) (below i)
        go (inr (none, more)) =
            let place : i ≡ length (tabulate count f) + (i - count) = omega (arith, length_tabulate count f) in
            let e = ap (λ (k : ℕ). get_or (tabulate count f ++ rest) k 0) place ∙ get_or-append-add (tabulate count f) rest (i - count) 0 in
            rw e (behind more)

    pub shifted_below : (i : ℕ) → i < body_length n → get_or (shifted s s' own others) i 0 < modulus n
    unfolding shifted
    shifted_below i less =
        tabulated_below (section_length n 0) (by_row 2 (square_row s s' own others)) (P ++ (Q ++ R)) squares_below i
        (λ more.
        tabulated_below (section_length n 1) (by_row (n + 1) (power_row s s' own others)) (Q ++ R) powers_below (i - section_length n 0)
        (λ more'.
        let j = i - section_length n 0 - section_length n 1 in
        rw (append_assoc T (last_row s s' own others) R)
        (tabulated_below (triple_count n * 3) (by_row 3 (triple_row s s' own others)) (last_row s s' own others ++ R) triples_below j
        (λ more''.
        let k = j - triple_count n * 3 in
        rw (get_or-append (last_row s s' own others) R 0 k (last_inside k (omega arith))) (last_below k)))))
