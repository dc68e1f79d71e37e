-- What the code stores after rounds 1, 2 and 4 is what the rounds have.
use Rattle.std.proofs.Common.{ℕ, ◌≡◌, ◌+◌, ◌*◌, ◌/◌, ◌%◌, ◌≤◌, true, List, ◌++◌, sym, ap, ◌∙◌, length, get_or, take, drop, length-take-le, mod-eq_of_lt, arith}
use Rattle.std.proofs.lemmas.List.Edits.{sets}
use Rattle.lists.specs.Tabulate.{tabulate}
use Rattle.lists.proofs.Tabulate.{length_tabulate, get_d_tabulate, tabulate_same}
use Rattle.lists.proofs.Sets.{sets_front, sets_whole}
use Rattle.lists.proofs.Sums.{sum_same}
use Rattle.field.specs.Width.{listed, modulus}
use Rattle.field.proofs.Widths.{bounds}
use Rattle.shares.specs.Side.{is_side, other}
use Rattle.shares.specs.Share.{constant_share}
use Rattle.shares.proofs.Sides.{constant_total}
use Rattle.tape.specs.Layout.{square_count, group_count}
use Rattle.tape.specs.Order.{Readable}
use Rattle.encoding.specs.Codes.{level_code}
use Rattle.protocol.specs.Tests.{low_bit, complement, exclusive}
use Rattle.protocol.specs.Work.{sum_slot, wrap_slot, half_slot, held}
use Rattle.protocol.specs.Products.{Party, low_triple, wrap_triple, triples_of, closed, closing}
use Rattle.protocol.specs.Squares.{code_difference, bit_difference, square_closing, match_count}
use Rattle.protocol.specs.Rounds.{squares_of, powers_of, doubled_of, low_products, low_sum, level_products, wrap_products, half_share, after_hearing}
use Rattle.protocol.proofs.Matches.{group_difference}
use Rattle.steps.proofs.Groups.{test_of}
use Rattle.compare.proofs.Products.{closes_with, closes_products, level_factors}

-- a group's count depends on its own test's doubled share alone
count_same : (n side : ℕ) (d e : ℕ → ℕ) (squares incoming : List ℕ) (g : ℕ) → d (g / n) ≡ e (g / n)
    → match_count n side d squares incoming g ≡ match_count n side e squares incoming g
unfolding match_count
count_same n side d e squares incoming g same =
    ap (λ (s : ℕ). (constant_share side 1 + s) % modulus n)
    (sum_same n
    (λ k. square_closing n side (bit_difference n side d (g * n + k)) squares incoming (g * n + k))
    (λ k. square_closing n side (bit_difference n side e (g * n + k)) squares incoming (g * n + k))
    (λ k less.
    ap (λ (v : ℕ). square_closing n side v squares incoming (g * n + k))
    (group_difference n side d g k less
    ∙ ap (λ (x : ℕ). code_difference n side (level_code n side x (g % n)) k) same
    ∙ sym (group_difference n side e g k less))))

module _ (b : Party) (incoming : List ℕ) where
  -- round 1's counts, from the three doubled shares
  pub counts_heard : listed b.n ≡ true
      → tabulate (group_count b.n) (match_count b.n b.side (λ t. get_or (tabulate 3 (doubled_of b)) t 0) (squares_of b) incoming)
      ≡ tabulate (group_count b.n) (match_count b.n b.side (doubled_of b) (squares_of b) incoming)
  counts_heard width =
      let doubles : ℕ → ℕ = λ t. get_or (tabulate 3 (doubled_of b)) t 0 in
      tabulate_same (group_count b.n) (match_count b.n b.side doubles (squares_of b) incoming) (match_count b.n b.side (doubled_of b) (squares_of b) incoming)
      (λ g less.
      count_same b.n b.side doubles (doubled_of b) (squares_of b) incoming g
      (get_d_tabulate 3 (doubled_of b) (g / b.n) 0 (test_of b.n g (omega (arith, bounds width)) less)))

  -- round 2's products, closed in the front of work
  pub levels_heard : (work products : List ℕ) → Readable b.n b.tape → group_count b.n ≤ length work
      → products
      ≡ sets (take (group_count b.n) work) 0
      (closes_with b.n b.side (take (group_count b.n) work) (powers_of b) (b.n + 1) (triples_of b) 0 (length (take (group_count b.n) work)) incoming 0)
      → products ++ drop (group_count b.n) work ≡ after_hearing b work 2 incoming
  unfolding after_hearing level_products
  levels_heard work products r room e =
      let count = group_count b.n in
      let front = take count work in
      let long : length front ≡ count = length-take-le count work room in
      let words : List ℕ = tabulate count (closing b (level_products b work) incoming 0) in
      let whole : length words ≡ count = length_tabulate count (closing b (level_products b work) incoming 0) in
      let made : products ≡ words =
      rw long at e
      ∙ ap (λ (ws : List ℕ). sets front 0 ws) (closes_products (level_factors b work r) incoming 0)
      ∙ sets_whole front words (whole ∙ sym long) in
      ap (λ (ws : List ℕ). ws ++ drop count work) made
      ∙ ap (λ (k : ℕ). words ++ drop k work) (sym whole)
      ∙ sym (sets_front work words (omega (arith, whole, room)))

  -- what the code has of u + v − 2·u·v, by the triples from a first one on
  abbrev exclusives : List ℕ → List ℕ → ℕ → ℕ → List ℕ
  exclusives u v first from =
      tabulate 3
      (λ t.
      exclusive b.n ((get_or u t 0 + get_or v t 0) % modulus b.n)
      (closed b.n b.side (get_or u t 0) (get_or v t 0) (triples_of b) (first + t) incoming (from + t * 2)))

  -- round 1's shares of S: the two boxes' shares of a low bit add up to it
  pub sums_heard : listed b.n ≡ true → is_side b.side ≡ true
      → exclusives (tabulate 3 (low_products b).left) (tabulate 3 (low_products b).right) (low_triple b.n) (square_count b.n)
      ≡ tabulate 3 (low_sum b incoming)
  unfolding low_sum closing low_products
  sums_heard width box =
      let low : ℕ → ℕ = low_bit b.n b.x b.y in
      let total : (t : ℕ) → (constant_share b.side (low t) + constant_share (other b.side) (low t)) % modulus b.n ≡ low t =
      λ t. rw (constant_total b.side (low t) box) (mod-eq_of_lt (omega (arith, bounds width))) in
      rw (total 0, total 1, total 2)

  -- round 4's half tests
  pub halves_heard : (work sums wraps low words : List ℕ)
      → sums ≡ tabulate 3 (λ t. held b.n work (sum_slot b.n t))
      → wraps ≡ tabulate 3 (λ t. held b.n work (wrap_slot b.n t))
      → low ≡ exclusives sums wraps (wrap_triple b.n) 0
      → words ≡ tabulate 3 (λ t. complement b.n b.side (get_or low t 0))
      → sets work (half_slot b.n 0) words ≡ after_hearing b work 4 incoming
  unfolding after_hearing half_share closing wrap_products
  halves_heard work sums wraps low words es ew el e = rw (e, el, es, ew)
