-- Each round's words, from what the steps that open them store.
use Rattle.std.proofs.Common.{ℕ, ◌≡◌, ◌+◌, ◌-◌, ◌/◌, ◌<◌, ◌≤◌, true, List, ◌++◌, refl, sym, ap, ◌∙◌, length, get_or, take, drop, length-take-le, arith}
use Rattle.std.proofs.Math.Nat.{div-lt_iff_lt-mul}
use Rattle.std.proofs.lemmas.List.Edits.{sets}
use Rattle.std.proofs.Math.ListN.{get_or-append}
use Rattle.std.proofs.lemmas.List.{get_or-append-add}
use Rattle.lists.specs.Tabulate.{tabulate}
use Rattle.lists.specs.Span.{span, later}
use Rattle.lists.proofs.Tabulate.{length_tabulate, get_d_tabulate, tabulated}
use Rattle.lists.proofs.Span.{span_same, span_shift, sets_later, drop_tabulate}
use Rattle.field.specs.Width.{listed}
use Rattle.field.proofs.Widths.{bounds}
use Rattle.tape.specs.Layout.{square_count, group_count}
use Rattle.tape.specs.Order.{Readable}
use Rattle.protocol.specs.Tests.{low_bit}
use Rattle.protocol.specs.Work.{sum_slot, wrap_slot, held}
use Rattle.protocol.specs.Products.{Party, wrap_triple, triples_of, open_left, open_right, alternating, openings}
use Rattle.protocol.specs.Squares.{bit_difference, square_opening}
use Rattle.protocol.specs.Answer.{half_opening}
use Rattle.protocol.specs.Rounds.{squares_of, powers_of, doubled_of, square_word, low_products, level_products, wrap_products, halves_held, half_word, round_words, message}
use Rattle.protocol.specs.Filling.{filled, low_word}
use Rattle.protocol.proofs.Lengths.{message_length}
use Rattle.compare.proofs.Products.{opens_with, opens_products, level_factors, wrap_factors}

module _ (b : Party) (work : List ℕ) where
  pub level_message : Readable b.n b.tape → group_count b.n ≤ length work
      → opens_with b.n (take (group_count b.n) work) (powers_of b) (b.n + 1) (triples_of b) 0 (length (take (group_count b.n) work)) ≡ message b work 2
  unfolding message level_products
  level_message r room = rw (length-take-le (group_count b.n) work room) (opens_products (level_factors b work r))

  pub wrap_message : listed b.n ≡ true
      → opens_with b.n (tabulate 3 (λ t. held b.n work (sum_slot b.n t))) (tabulate 3 (λ t. held b.n work (wrap_slot b.n t)))
      1 (triples_of b) (wrap_triple b.n) 3
      ≡ message b work 4
  unfolding message wrap_products
  wrap_message width = opens_products (wrap_factors b width work)

  pub half_message : tabulate 3 (half_opening b.n (λ k. get_or (tabulate 3 (halves_held b work)) k 0) (triples_of b)) ≡ message b work 5
  unfolding message half_word half_opening
  half_message = refl

-- ---- round 1, put into out from its last word down

-- the word of square j, from the three doubled shares
abbrev opened_square : Party → ℕ → ℕ
opened_square b j = square_opening b.n (bit_difference b.n b.side (λ t. get_or (tabulate 3 (doubled_of b)) t 0) j) (squares_of b) j

-- word k of α · β after them, from the three low bits
abbrev opened_low : Party → ℕ → ℕ
opened_low b = low_word b.n b.side (tabulate 3 (low_bit b.n b.x b.y)) (triples_of b)

module _ (b : Party) (width : listed b.n ≡ true) (work : List ℕ) where
  abbrev square_words : List ℕ
  square_words = tabulate (square_count b.n) (square_word b)

  square_same : (j : ℕ) → j < square_count b.n → opened_square b j ≡ get_or (message b work 1) j 0
  unfolding message square_word bit_difference
  square_same j less =
      let some : 0 < b.n = omega (arith, bounds width) in
      let test : j / b.n / b.n < 3 = (div-lt_iff_lt-mul some).1 ((div-lt_iff_lt-mul some).1 (omega arith)) in
      let inside : j < length square_words = omega (arith, length_tabulate (square_count b.n) (square_word b)) in
      rw (get_d_tabulate 3 (doubled_of b) (j / b.n / b.n) 0 test)
      (sym
      (get_or-append square_words (openings b (low_products b)) 0 j inside
      ∙ get_d_tabulate (square_count b.n) (square_word b) j 0 less))

  low_same : (k : ℕ) → k < 6 → opened_low b k ≡ get_or (message b work 1) (square_count b.n + k) 0
  unfolding message openings open_left open_right low_products
  low_same k less =
      let products : List ℕ = openings b (low_products b) in
      let long : square_count b.n ≡ length square_words = sym (length_tabulate (square_count b.n) (square_word b)) in
      rw (get_d_tabulate 3 (low_bit b.n b.x b.y) (k / 2) 0 (omega arith))
      (sym
      (ap (λ (m : ℕ). get_or (square_words ++ products) (m + k) 0) long
      ∙ get_or-append-add square_words products k 0
      ∙ get_d_tabulate 6 (alternating (open_left b (low_products b)) (open_right b (low_products b))) k 0 less))

  -- the words from a place on: those of α · β, then the squares', if the place lies among them
  pub first_filled : (out : List ℕ) (count from : ℕ) → from ≡ round_words b.n 1 - count
      → sets (sets out (later (square_count b.n) from) (span (from - square_count b.n) 6 (opened_low b)))
      from
      (span from (square_count b.n) (opened_square b))
      ≡ filled out (message b work 1) count
  unfolding filled round_words
  first_filled out count from e =
      let squares : ℕ = square_count b.n in
      let words : List ℕ = message b work 1 in
      let word : ℕ → ℕ = λ j. get_or words j 0 in
      let long = message_length b work 1 in
      let start : length words - count ≡ from = omega arith in
      let rest : drop from words ≡ span from (squares + 6) word =
      ap (drop from) (tabulated words (squares + 6) word long (λ j less. refl)) ∙ drop_tabulate from (squares + 6) word (omega arith) in
      rw (
        start,
        rest,
        span_shift squares (from - squares) 6 (opened_low b) word (λ k least less. low_same k less),
        span_same from squares (opened_square b) word (λ j least less. square_same j less),
      )
      (sets_later out from squares (squares + 6) word (omega arith))
