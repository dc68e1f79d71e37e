-- What both boxes hold adds up, round after round, to what document 01 says: A and S, A · w, the wraps, the half tests, and the answer.
-- Here v1 and v2 are the two boxes' work before a round, and each hears what the other sends.
use Prim.Native.Nat.{ℕ, ◌+◌, ◌-◌, ◌*◌, ◌%◌, ◌<◌, ◌≤◌}
use mathlib.Core.Path.{◌≡◌, refl, sym, ap, ◌∙◌}
use mathlib.Core.Bool.{true}
use mathlib.Core.List.{List}
use native.Mathlib.Omega.{arith}
use lib.Arith.{digits_div, digits_mod}
use lib.Dec.{eqb, leb}
use lib.ListN.{length, get_or, get_or-append}
use Rattle.lists.specs.Tabulate.{tabulate}
use Rattle.lists.proofs.Tabulate.{length_tabulate, get_d_tabulate}
use Rattle.lists.proofs.Sums.{sum_add}
use Rattle.field.specs.Width.{modulus, listed}
use Rattle.field.specs.Congruence.{Cong}
use Rattle.field.proofs.Congruences.{cong_refl, cong_eq, ◌⊙◌, cong_mod, cong_add, cong_mul}
use Rattle.field.proofs.Sums.{cong_sum}
use Rattle.shares.specs.Side.{other}
use Rattle.shares.specs.Share.{constant_share, opened}
use Rattle.shares.proofs.Reading.{opened_sum}
use Rattle.shares.proofs.Products.{opened_both}
use Rattle.tape.specs.Layout.{section, square_count, group_count}
use Rattle.tape.specs.Dealt.{Matched}
use Rattle.tape.proofs.Letters.{group_index}
use Rattle.tape.proofs.Dealing.{own_readable, own_side}
use Rattle.encoding.specs.Codes.{level_code}
use Rattle.encoding.specs.Matching.{indicator}
use Rattle.encoding.proofs.Fits.{code_fits}
use Rattle.encoding.proofs.Values.{level_match_lem}
use Rattle.protocol.specs.Tests.{doubled, low_bit}
use Rattle.protocol.specs.Work.{sum_slot, wrap_slot, half_slot, work_length, held}
use Rattle.protocol.specs.Products.{Party, party, low_triple, wrap_triple, closing, openings}
use Rattle.protocol.specs.Squares.{bit_difference, square_opening}
use Rattle.protocol.specs.Answer.{half_opening}
use Rattle.protocol.specs.Forms.{five_rounds}
use Rattle.protocol.specs.Levels.{level_match, level_opened, wrap_share}
use Rattle.protocol.specs.Rounds.{doubled_of, squares_of, square_word, low_products, low_sum, level_products, wrap_products, half_share, halves_held, half_word, answer_share, last_round, message, after_hearing}
use Rattle.protocol.specs.Clear.{value_of, shared_bits, low_sum_of, wrap_of, half_of}
use Rattle.protocol.proofs.Totals.{complement_total, exclusive_total}
use Rattle.protocol.proofs.Closings.{Heard, openings_heard, heard_after_lem, closed_total}
use Rattle.protocol.proofs.Matches.{count_total}
use Rattle.protocol.proofs.Wraps.{inverse_total, level_total, codes_wrap}
use Rattle.protocol.proofs.Halves.{low_bit_lem, half_bit, modulus_odd, indicator_bit}
use Rattle.protocol.proofs.Sums.{low_product, bit_sum}
use Rattle.protocol.proofs.Values.{value_below, doubled_below, doubled_total}
use Rattle.protocol.proofs.Below.{exclusive_below}
use Rattle.protocol.proofs.Slots.{count_1, sum_1, level_2, sum_2, wrap_3, sum_3, half_4}
use Rattle.protocol.proofs.Answers.{answer_from_total}

-- the squares' words stand first in round 1's message
first_words : (q : Party) (work : List ℕ) (j : ℕ) → j < square_count q.n
    → get_or (message q work 1) j 0 ≡ square_opening q.n (bit_difference q.n q.side (doubled_of q) j) (squares_of q) j
unfolding message square_word
first_words q work j less =
    get_or-append (tabulate (square_count q.n) (square_word q)) (openings q (low_products q)) 0 j
    (rw (length_tabulate (square_count q.n) (square_word q)) less)
    ∙ get_d_tabulate (square_count q.n) (square_word q) j 0 less

-- and those of α · β behind them
low_heard : (q : Party) (work : List ℕ) (t : ℕ) → t < 3
    → let ps = low_products q in
    Heard q.n (ps.left t) (ps.right t) (section q.n 2 q.tape) (ps.first + t) (message q work 1) (square_count q.n + t * 2)
unfolding message low_products
low_heard q work t less =
    heard_after_lem (tabulate (square_count q.n) (square_word q)) (t * 2) (square_count q.n)
    (length_tabulate (square_count q.n) (square_word q)) (openings_heard q (low_products q) t less)

module _ {n pair number side : ℕ} {t1 t2 : List ℕ} (m : Matched n pair number side t1 t2) (x1 y1 x2 y2 : ℕ) (v1 v2 : List ℕ)
    (room1 : work_length n ≤ length v1) (room2 : work_length n ≤ length v2) where
  abbrev own_box : Party
  own_box = party n side x1 y1 t1

  abbrev other_box : Party
  other_box = party n (other side) x2 y2 t2

  l : listed n ≡ true
  l = (own_readable m).width

  -- what the two boxes' words of a slot add up to, after the round
  abbrev pub total : ℕ → ℕ → ℕ
  total round slot =
      held n (after_hearing own_box v1 round (message other_box v2 round)) slot + held n (after_hearing other_box v2 round (message own_box v1 round)) slot

  -- ---- round 1

  abbrev shared : ℕ → ℕ
  shared g = shared_bits n side x1 y1 x2 y2 g

  pub count_total_1 : (g : ℕ) → g < group_count n → Cong (modulus n) (total 1 g) (1 + shared g)
  count_total_1 g less =
      cong_add (cong_eq (count_1 own_box l v1 (message other_box v2 1) room1 g less)) (cong_eq (count_1 other_box l v2 (message own_box v1 1) room2 g less))
      ⊙ count_total m (doubled n x1 y1) (doubled n x2 y2) g less (message other_box v2 1) (message own_box v1 1)
      (first_words other_box v2) (first_words own_box v1)

  bit : (x y t : ℕ) → low_bit n x y t ≤ 1
  bit x y t = omega arith

  -- α · β
  low_total : (t : ℕ) → t < 3
      → Cong (modulus n)
      (closing own_box (low_products own_box) (message other_box v2 1) (square_count n) t + closing other_box (low_products other_box) (message own_box v1 1) (square_count n) t)
      (low_bit n x1 y1 t * low_bit n x2 y2 t)
  unfolding closing low_products
  low_total t less =
      closed_total m (low_triple n + t) (omega arith)
      (constant_share side (low_bit n x1 y1 t)) (constant_share (other side) (low_bit n x1 y1 t))
      (constant_share (other side) (low_bit n x2 y2 t)) (constant_share (other (other side)) (low_bit n x2 y2 t))
      (message other_box v2 1) (message own_box v1 1) (square_count n + t * 2)
      (low_heard other_box v2 t less) (low_heard own_box v1 t less)
      ⊙ cong_eq (low_product side (low_bit n x1 y1 t) (low_bit n x2 y2 t) (own_side m))

  -- S
  pub sum_total_1 : (t : ℕ) → t < 3 → Cong (modulus n) (total 1 (sum_slot n t)) (low_sum_of n x1 y1 x2 y2 t)
  unfolding low_sum
  sum_total_1 t less =
      cong_add (cong_eq (sum_1 own_box l v1 (message other_box v2 1) room1 t less)) (cong_eq (sum_1 other_box l v2 (message own_box v1 1) room2 t less))
      ⊙ exclusive_total n l (low_bit n x1 y1 t) (low_bit n x2 y2 t)
      (closing own_box (low_products own_box) (message other_box v2 1) (square_count n) t) (closing other_box (low_products other_box) (message own_box v1 1) (square_count n) t)
      (low_bit n x1 y1 t + low_bit n x2 y2 t) (low_bit n x1 y1 t * low_bit n x2 y2 t) ((low_bit n x1 y1 t + low_bit n x2 y2 t) % 2)
      cong_refl (low_total t less) (bit_sum (low_bit n x1 y1 t) (low_bit n x2 y2 t) (bit x1 y1 t) (bit x2 y2 t))

  -- ---- round 2: A · w

  pub level_total_2 : (g a : ℕ) → g < group_count n → Cong (modulus n) (held n v1 g + held n v2 g) a
      → Cong (modulus n) (total 2 g) (a * inverse_total n t1 t2 g)
  unfolding closing level_products message
  level_total_2 g a less same =
      cong_add (cong_eq (level_2 own_box l v1 (message other_box v2 2) room1 g less)) (cong_eq (level_2 other_box l v2 (message own_box v1 2) room2 g less))
      ⊙ closed_total m (0 + g) (omega arith) (held n v1 g) _ (held n v2 g) _ (message other_box v2 2) (message own_box v1 2) (0 + g * 2)
      (openings_heard other_box (level_products other_box v2) g less) (openings_heard own_box (level_products own_box v1) g less)
      ⊙ cong_mul same cong_refl

  pub sum_total_2 : (t : ℕ) → total 2 (sum_slot n t) ≡ held n v1 (sum_slot n t) + held n v2 (sum_slot n t)
  sum_total_2 t = rw (sum_2 own_box l v1 (message other_box v2 2) room1 t, sum_2 other_box l v2 (message own_box v1 2) room2 t)

  -- ---- round 3: the wraps

  -- what each box hears of d
  levels_heard : (q : Party) (work : List ℕ) (g : ℕ) → g < group_count q.n → get_or (message q work 3) g 0 ≡ held q.n work g
  unfolding message
  levels_heard q work g less = get_d_tabulate (group_count q.n) (λ g. held q.n work g) g 0 less

  -- one level: both boxes open the same d = A · w, and the shares of P(A) say whether the codes are equal
  level_total_3 : (t i : ℕ) → t < 3 → i < n
      → Cong (modulus n) (held n v1 (t * n + i) + held n v2 (t * n + i)) ((1 + shared (t * n + i)) * inverse_total n t1 t2 (t * n + i))
      → Cong (modulus n)
      (level_match n side (level_opened n v1 (message other_box v2 3) (t * n + i)) (section n 1 t1) (t * n + i)
      + level_match n (other side) (level_opened n v2 (message own_box v1 3) (t * n + i)) (section n 1 t2) (t * n + i))
      (indicator (eqb (level_code n side (doubled n x1 y1 t) i) (level_code n (other side) (doubled n x2 y2 t) i)))
  level_total_3 t i lt li same =
      let g = t * n + i in
      let less : g < group_count n = group_index n t i lt li in
      let d = opened n (held n v1 g) (held n v2 g) in
      let c1 = level_code n side (doubled n x1 y1 t) i in
      let c2 = level_code n (other side) (doubled n x2 y2 t) i in
      rw (levels_heard other_box v2 g less, levels_heard own_box v1 g less, opened_both n (held n v2 g) (held n v1 g))
      (level_total m g d (1 + shared g) less (cong_eq (opened_sum n (held n v1 g) (held n v2 g)) ⊙ cong_mod ⊙ same)
      ⊙ cong_eq (rw (digits_div t li, digits_mod t li) refl)
      ⊙ level_match_lem n c1 c2 l
      (code_fits n side (doubled n x1 y1 t) i l (doubled_below n l x1 y1 t) li)
      (code_fits n (other side) (doubled n x2 y2 t) i l (doubled_below n l x2 y2 t) li))

  pub wrap_total_3 : (t : ℕ) → t < 3
      → ((g : ℕ) → g < group_count n → Cong (modulus n) (held n v1 g + held n v2 g) ((1 + shared g) * inverse_total n t1 t2 g))
      → Cong (modulus n) (total 3 (wrap_slot n t)) (wrap_of n x1 y1 x2 y2 t)
  unfolding wrap_share
  wrap_total_3 t less same =
      let f1 : ℕ → ℕ = λ i. level_match n side (level_opened n v1 (message other_box v2 3) (t * n + i)) (section n 1 t1) (t * n + i) in
      let f2 : ℕ → ℕ = λ i. level_match n (other side) (level_opened n v2 (message own_box v1 3) (t * n + i)) (section n 1 t2) (t * n + i) in
      cong_add (cong_eq (wrap_3 own_box l v1 (message other_box v2 3) room1 t less)) (cong_eq (wrap_3 other_box l v2 (message own_box v1 3) room2 t less))
      ⊙ cong_add cong_mod cong_mod
      ⊙ cong_eq (sym (sum_add n f1 f2))
      ⊙ cong_sum n (λ i. f1 i + f2 i)
      (λ i. indicator (eqb (level_code n side (doubled n x1 y1 t) i) (level_code n (other side) (doubled n x2 y2 t) i)))
      (λ i li. level_total_3 t i less li (same (t * n + i) (group_index n t i less li)))
      ⊙ cong_eq
      (codes_wrap n side (doubled n x1 y1 t) (doubled n x2 y2 t) (own_side m) (doubled_below n l x1 y1 t) (doubled_below n l x2 y2 t))

  pub sum_total_3 : (t : ℕ) → t < 3 → total 3 (sum_slot n t) ≡ held n v1 (sum_slot n t) + held n v2 (sum_slot n t)
  sum_total_3 t less = rw (sum_3 own_box l v1 (message other_box v2 3) room1 t less, sum_3 other_box l v2 (message own_box v1 3) room2 t less)

  -- ---- round 4: the half tests

  -- the low bit of the doubled value, from S and T, turned: the half test
  half_of_lem : (t : ℕ) → y1 < modulus n → y2 < modulus n
      → 1 - ((low_bit n x1 y1 t + low_bit n x2 y2 t) % 2 + indicator (leb (modulus n) (doubled n x1 y1 t + doubled n x2 y2 t))) % 2
      ≡ half_of n x1 y1 x2 y2 t
  half_of_lem t ly1 ly2 =
      let p = modulus n in
      let odd = modulus_odd n l in
      let d1 = doubled n x1 y1 t in
      let d2 = doubled n x2 y2 t in
      let v = value_of n x1 y1 x2 y2 t in
      ap (λ (k : ℕ). 1 - k)
      (sym (low_bit_lem p d1 d2 odd (doubled_below n l x1 y1 t) (doubled_below n l x2 y2 t))
      ∙ ap (λ (k : ℕ). k % 2) (doubled_total n l x1 y1 x2 y2 t ly1 ly2).same)
      ∙ half_bit p v odd (value_below n l x1 y1 x2 y2 t)

  pub half_total_4 : (t : ℕ) → t < 3 → y1 < modulus n → y2 < modulus n
      → Cong (modulus n) (held n v1 (sum_slot n t) + held n v2 (sum_slot n t)) (low_sum_of n x1 y1 x2 y2 t)
      → Cong (modulus n) (held n v1 (wrap_slot n t) + held n v2 (wrap_slot n t)) (wrap_of n x1 y1 x2 y2 t)
      → Cong (modulus n) (total 4 (half_slot n t)) (half_of n x1 y1 x2 y2 t)
  unfolding half_share closing wrap_products message
  half_total_4 t less ly1 ly2 hs ht =
      let p = modulus n in
      let s = (low_bit n x1 y1 t + low_bit n x2 y2 t) % 2 in
      let w = indicator (leb p (doubled n x1 y1 t + doubled n x2 y2 t)) in
      let ls : s ≤ 1 = omega arith in
      let lw : w ≤ 1 = indicator_bit (leb p (doubled n x1 y1 t + doubled n x2 y2 t)) in
      cong_add (cong_eq (half_4 own_box l v1 (message other_box v2 4) room1 t less)) (cong_eq (half_4 other_box l v2 (message own_box v1 4) room2 t less))
      ⊙ complement_total n l side (own_side m) _ _ ((s + w) % 2)
      (exclusive_below n l _ _) (exclusive_below n l _ _)
      (exclusive_total n l _ _
      (closing own_box (wrap_products own_box v1) (message other_box v2 4) 0 t) (closing other_box (wrap_products other_box v2) (message own_box v1 4) 0 t)
      (s + w) (s * w) ((s + w) % 2)
      (cong_add cong_mod cong_mod
      ⊙ cong_eq {b = (held n v1 (sum_slot n t) + held n v2 (sum_slot n t)) + (held n v1 (wrap_slot n t) + held n v2 (wrap_slot n t))} (omega arith)
      ⊙ cong_add hs ht)
      (closed_total m (wrap_triple n + t) (omega arith) (held n v1 (sum_slot n t)) (held n v1 (wrap_slot n t)) (held n v2 (sum_slot n t)) (held n v2 (wrap_slot n t))
      (message other_box v2 4) (message own_box v1 4) (0 + t * 2)
      (openings_heard other_box (wrap_products other_box v2) t less) (openings_heard own_box (wrap_products own_box v1) t less)
      ⊙ cong_mul hs ht)
      (bit_sum s w ls lw))
      (omega arith)
      ⊙ cong_eq (half_of_lem t ly1 ly2)

  -- ---- round 5: the answer

  -- what each box hears of H, U and Z
  halves_heard : (q : Party) (work : List ℕ) (k : ℕ) → k < 3
      → get_or (message q work last_round) k 0 ≡ half_opening q.n (halves_held q work) (section q.n 2 q.tape) k
  unfolding message half_word
  halves_heard q work k less = get_d_tabulate 3 (half_word q work) k 0 less

  pub answer_total : (h u z : ℕ)
      → Cong (modulus n) (held n v1 (half_slot n 0) + held n v2 (half_slot n 0)) h
      → Cong (modulus n) (held n v1 (half_slot n 1) + held n v2 (half_slot n 1)) u
      → Cong (modulus n) (held n v1 (half_slot n 2) + held n v2 (half_slot n 2)) z
      → Cong (modulus n) (answer_share own_box v1 (message other_box v2 last_round) + answer_share other_box v2 (message own_box v1 last_round))
      (five_rounds n h u z)
  unfolding answer_share
  answer_total =
      answer_from_total m (halves_held own_box v1) (halves_held other_box v2) (message other_box v2 last_round) (message own_box v1 last_round)
      (halves_heard other_box v2) (halves_heard own_box v1)
