-- The plain tapes of document 01's plainrun are in order, and the two of one tape number are a pair dealt by the rules.
use Prim.Native.Nat.{ℕ, zero, suc, ◌+◌, ◌*◌, ◌%◌, ◌^◌, ◌<◌, ◌≤◌}
use mathlib.Core.Path.{◌≡◌, refl, ◌∙◌}
use mathlib.Core.Bool.{Bool, true, false, ◌&&◌, cond, and-true, and-false}
use mathlib.Core.List.{List}
use native.Mathlib.Nat.{pow-suc}
use native.Mathlib.Omega.{arith}
use borrow.Author.Tests.{eq-eqb, lt-ltb, le-ltb, le-leb, lt-leb}
use lib.Dec.{eqb, leb, ltb}
use lib.ListN.{length, get_or, length-append, get_or-append}
use lib.Seq.{get_or-append-add}
use Rattle.lists.specs.Tabulate.{tabulate}
use Rattle.lists.proofs.Tabulate.{length_tabulate, get_d_tabulate}
use Rattle.field.specs.Width.{listed, modulus}
use Rattle.field.proofs.Widths.{bounds}
use Rattle.shares.specs.Side.{is_side, other}
use Rattle.shares.specs.Share.{constant_share}
use Rattle.tape.specs.Layout.{square_count, group_count, triple_count, section_length, section_start, section, body_length, trailer}
use Rattle.tape.specs.Order.{in_order}
use Rattle.tape.specs.Letters.{square_mask, square_value, group_inverse, group_power, triple_left, triple_right, triple_product, last_letter}
use Rattle.tape.specs.Dealt.{square_pair, inverse_pair, power_pair, triple_group, threefold_group, last_sum, Dealt}
use Rattle.tape.specs.Plain.{plain_word, plain_tape}
use Rattle.tape.proofs.Sections.{section_within, section_at}
use Rattle.tape.proofs.Orders.{in_order_lem}
use Rattle.tape.proofs.Letters.{square_place, group_place, triple_place, last_place}

-- ---- the words of a plain body: 0 in the squares and the triples; in the powers, box 1 has 1 and box 2 has 0

cond_below : (t : Bool) {p : ℕ} → 1 < p → cond t 1 0 < p
cond_below true l = l
cond_below false l = omega arith

module _ (n side j : ℕ) where
  word_below : {p : ℕ} → 1 < p → plain_word n side j < p
  word_below l = cond_below (eqb side 1 && leb (section_start n 1) j && ltb j (section_start n 2)) l

  square_word_lem : j < section_start n 1 → plain_word n side j ≡ 0
  square_word_lem l = rw (lt-leb (section_start n 1) j l, and-false (eqb side 1))

  power_word : section_start n 1 ≤ j → j < section_start n 2 → plain_word n side j ≡ constant_share side 1
  unfolding constant_share
  power_word least most = simp (le-leb (section_start n 1) j least, lt-ltb j (section_start n 2) most, and-true)

  triple_word : section_start n 2 ≤ j → plain_word n side j ≡ 0
  triple_word l = rw (le-ltb j (section_start n 2) l, and-false)

-- ---- one plain tape

module _ (n side : ℕ) where
  abbrev body : List ℕ
  body = tabulate (body_length n) (plain_word n side)

  body_long : length body ≡ body_length n
  body_long = length_tabulate (body_length n) (plain_word n side)

module _ (n pair side number : ℕ) where
  abbrev tape : List ℕ
  tape = plain_tape n pair side number

  body_at : (j : ℕ) → j < body_length n → get_or tape j 0 ≡ plain_word n side j
  unfolding plain_tape
  body_at j l =
      get_or-append (body n side) (trailer n pair side number) 0 j (omega (arith, body_long n side))
      ∙ get_d_tabulate (body_length n) (plain_word n side) j 0 l

  trailer_at : (k : ℕ) → get_or tape (body_length n + k) 0 ≡ get_or (trailer n pair side number) k 0
  unfolding plain_tape
  trailer_at k = rw (body_long n side) at (get_or-append-add (body n side) (trailer n pair side number) k 0)

  pub plain_order : listed n ≡ true → is_side side ≡ true → in_order n pair side number (plain_tape n pair side number) ≡ true
  unfolding plain_tape
  plain_order width box =
      in_order_lem n pair side number tape width box
      (length-append (body n side) (trailer n pair side number) ∙ omega (arith, body_long n side))
      (λ k l. trailer_at k)
      (λ i l. rw (body_at i l) (word_below n side i (omega (arith, bounds width))))

  -- a section's words
  plain_at : (which i : ℕ) → which < 3 → i < section_length n which
      → get_or (section n which tape) i 0 ≡ plain_word n side (section_start n which + i)
  plain_at which i l inside =
      section_at n which tape i inside
      ∙ body_at (section_start n which + i) (omega (arith, section_within n which l))

  plain_square : (i : ℕ) → i < section_length n 0 → get_or (section n 0 tape) i 0 ≡ 0
  plain_square i l = plain_at 0 i (omega arith) l ∙ square_word_lem n side (0 + i) (omega arith)

  plain_power : (i : ℕ) → i < section_length n 1 → get_or (section n 1 tape) i 0 ≡ constant_share side 1
  plain_power i l = plain_at 1 i (omega arith) l ∙ power_word n side (section_start n 1 + i) (omega arith) (omega arith)

  plain_triple : (i : ℕ) → i < section_length n 2 → get_or (section n 2 tape) i 0 ≡ 0
  plain_triple i l = plain_at 2 i (omega arith) l ∙ triple_word n side (section_start n 2 + i) (omega arith)

  -- its letters
  plain_mask : (i : ℕ) → i < square_count n → square_mask (section n 0 tape) i ≡ 0
  plain_mask i l = plain_square (i * 2) (omega arith)

  plain_value : (i : ℕ) → i < square_count n → square_value (section n 0 tape) i ≡ 0
  plain_value i l = plain_square (i * 2 + 1) (square_place n i l)

  plain_inverse : (g : ℕ) → g < group_count n → group_inverse n (section n 1 tape) g ≡ constant_share side 1
  plain_inverse g l = plain_power (g * (n + 1)) (omega (arith, group_place n g 0 l (omega arith)))

  plain_group : (g k : ℕ) → g < group_count n → k ≤ n
      → group_power n (section n 1 tape) g k ≡ constant_share side 1
  plain_group g k l most = plain_power (g * (n + 1) + k) (group_place n g k l most)

  plain_left : (i : ℕ) → i < triple_count n → triple_left (section n 2 tape) i ≡ 0
  plain_left i l = plain_triple (i * 3) (omega arith)

  plain_right : (i : ℕ) → i < triple_count n → triple_right (section n 2 tape) i ≡ 0
  plain_right i l = plain_triple (i * 3 + 1) (omega arith)

  plain_product : (i : ℕ) → i < triple_count n → triple_product (section n 2 tape) i ≡ 0
  plain_product i l = plain_triple (i * 3 + 2) (triple_place n i l)

  plain_last : (k : ℕ) → k < 7 → last_letter n (section n 2 tape) k ≡ 0
  plain_last k l = plain_triple (triple_count n * 3 + k) (last_place n k l)

-- ---- the two plain tapes of one tape number

one_power : (k : ℕ) → 1 ^ k ≡ 1
one_power zero = refl
one_power (suc k) = omega (arith, pow-suc 1 k, one_power k)

pub plain_dealt : (n pair number : ℕ) → listed n ≡ true → Dealt n pair number (plain_tape n pair 1 number) (plain_tape n pair 2 number)
unfolding is_side other constant_share square_pair inverse_pair power_pair triple_group threefold_group
plain_dealt n pair number width =
    let first : 1 ≤ n = omega (arith, bounds width) in
    let zeros = eq-eqb (0 % modulus n) (0 % modulus n) refl in
    let ones = eq-eqb (1 % modulus n) (1 % modulus n) refl in
    let none : (k : ℕ) → k < 7 → last_sum n (plain_tape n pair 1 number) (plain_tape n pair 2 number) k ≡ 0 =
    λ k l. simp plain_last in
    record {
      own_order = plain_order n pair 1 number width refl;
      others_order = plain_order n pair 2 number width refl;
      squares = λ i l. simp (plain_mask, plain_value) zeros;
      inverses = λ g l. simp (plain_inverse, plain_group) ones;
      powers = λ g k l least most. simp (plain_group, one_power) ones;
      triples = λ i l. simp (plain_left, plain_right, plain_product) zeros;
      last_ab = rw (none 0 (omega arith), none 1 (omega arith), none 3 (omega arith)) zeros;
      last_ac = rw (none 0 (omega arith), none 2 (omega arith), none 4 (omega arith)) zeros;
      last_bc = rw (none 1 (omega arith), none 2 (omega arith), none 5 (omega arith)) zeros;
      last_abc = rw (none 0 (omega arith), none 1 (omega arith), none 2 (omega arith), none 6 (omega arith)) zeros;
    }
