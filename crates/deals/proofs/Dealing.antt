-- The test dealer does what document 02's P1 and P7 ask of it.
use Prim.Native.Nat.{ℕ, ◌+◌, ◌*◌, ◌%◌, ◌^◌, ◌<◌, ◌≤◌}
use mathlib.Core.Path.{◌≡◌, refl, ap, ap₂, ◌∙◌}
use mathlib.Core.Bool.{true}
use mathlib.Core.List.{List}
use native.Mathlib.Omega.{arith}
use borrow.Author.Tests.{eq-eqb, ne_eqb}
use lib.ListN.{length, get_or}
use Rattle.std.specs.Prelude.{Result, IsOk, ⊤}
use Rattle.field.specs.Width.{listed, modulus}
use Rattle.refusals.specs.declared.Refusal.{Refusal}
use Rattle.refusals.proofs.Checks.{goes_on}
use Rattle.field.specs.Congruence.{Cong}
use Rattle.field.proofs.Widths.{bounds}
use Rattle.field.proofs.Congruences.{cong_eq, cong_sym, ◌⊙◌, cong_mul, cong_pow}
use Rattle.shares.specs.Side.{is_side, other}
use Rattle.tape.specs.Layout.{group_count, triple_count, section, tape_length}
use Rattle.tape.specs.Order.{in_order}
use Rattle.tape.specs.Dealt.{square_pair, inverse_pair, power_pair, triple_group, threefold_group, last_sum, Dealt}
use Rattle.tape.proofs.Orders.{in_order_lem}
use Rattle.deals.specs.Groups.{free_words, drawn_sum, exponent, total, group_word}
use Rattle.deals.specs.Deals.{Deal, dealt_tape, deal_ground, deal_rule, outcome}
use Rattle.deals.specs.Dealing.{Dealing}
use Rattle.deals.proofs.Grounds.{seed_ground, no_ground}
use Rattle.deals.proofs.Places.{body_kinds, each_place, section_of, Holds, before_group, tape_long, trailer_at, body_at, letter}
use Rattle.deals.proofs.Equations.{kind_below, both_drawn, both_left, root_total, power_total, inverse_total_lem}

-- ---- the tapes

module _ (seed n pair number : ℕ) (width : listed n ≡ true) where
  abbrev tape : ℕ → List ℕ
  tape side = dealt_tape seed n pair side number

  dealt_order : (side : ℕ) → is_side side ≡ true → in_order n pair side number (tape side) ≡ true
  dealt_order side box =
      in_order_lem n pair side number (tape side) width box
      (tape_long seed n pair side number)
      (λ k l. trailer_at seed n pair side number k)
      (λ i l.
      each_place (λ i. get_or (tape side) i 0 < modulus n) n 4
      (λ kind at few inside. rw (body_at seed n pair side number kind at few inside) (kind_below n width side kind _ at))
      i (omega (arith, l, body_kinds n)))

  -- both boxes' words at a place of a kind's section
  abbrev both : ℕ → ℕ → ℕ
  both kind i = get_or (section n (section_of kind) (tape 1)) i 0 + get_or (section n (section_of kind) (tape 2)) i 0

  -- the words of any group
  module _ (kind g j i : ℕ) (h : Holds n kind g j i) where
    abbrev before : ℕ
    before = before_group seed n kind g

    words : both kind i ≡ group_word n 1 kind before j + group_word n 2 kind before j
    words = ap₂ (λ (w1 w2 : ℕ). w1 + w2) (letter seed n pair 1 number kind g j i h) (letter seed n pair 2 number kind g j i h)

    drawn : j < free_words kind → both kind i ≡ drawn_sum n kind before j
    drawn l = words ∙ both_drawn n width kind before j l

    left : free_words kind ≤ j → Cong (modulus n) (both kind i) (total n kind before j)
    left l = cong_eq words ⊙ both_left n width kind before j l

  -- those of a power group
  module _ (g : ℕ) (l : g < group_count n) where
    abbrev start : ℕ
    start = before_group seed n 1 g

    power : (k : ℕ) → 1 ≤ k → k ≤ n → Cong (modulus n) (both 1 (g * (n + 1) + k)) (total n 1 start k)
    power k least most = left 1 g k (g * (n + 1) + k) (omega arith) (omega arith)

    root : Cong (modulus n) (both 1 (g * (n + 1) + 1)) (2 ^ exponent n start)
    root = power 1 (omega arith) (omega (arith, bounds width)) ⊙ cong_eq (root_total n width start)

    inverse : Cong (modulus n) (both 1 (g * (n + 1)) * both 1 (g * (n + 1) + 1)) 1
    inverse = cong_mul (left 1 g 0 (g * (n + 1)) (omega arith) (omega arith)) root ⊙ inverse_total_lem n width start

    powers : (k : ℕ) → 1 ≤ k → k ≤ n → Cong (modulus n) (both 1 (g * (n + 1) + k)) (both 1 (g * (n + 1) + 1) ^ k)
    powers k least most = power k least most ⊙ cong_eq (power_total n width start k least) ⊙ cong_sym (cong_pow k root)

  -- those of the last group, which has the draws after all others
  abbrev last : ℕ
  last = before_group seed n 3 0

  abbrev last_both : ℕ → ℕ
  last_both = last_sum n (tape 1) (tape 2)

  mask : (k : ℕ) → k < 3 → last_both k ≡ drawn_sum n 3 last k
  mask k l = drawn 3 0 k (triple_count n * 3 + k) (omega arith) (omega arith)

  last_product : (k : ℕ) → 3 ≤ k → k < 7 → last_both k % modulus n ≡ total n 3 last k % modulus n
  last_product k least most = (left 3 0 k (triple_count n * 3 + k) (omega arith) (omega arith)).same

  pub dealt_tapes : Dealt n pair number (dealt_tape seed n pair 1 number) (dealt_tape seed n pair 2 number)
  unfolding is_side other square_pair inverse_pair power_pair triple_group threefold_group total
  dealt_tapes =
      record {
        own_order = dealt_order 1 refl;
        others_order = dealt_order 2 refl;
        squares = λ i l.
            rw (drawn 0 i 0 (i * 2) (omega arith) (omega arith))
            (eq-eqb _ _ (left 0 i 1 (i * 2 + 1) (omega arith) (omega arith)).same);
        inverses = λ g l. eq-eqb _ _ (inverse g l).same;
        powers = λ g k l least most. eq-eqb _ _ (powers g l k least most).same;
        triples = λ i l.
            rw (drawn 2 i 0 (i * 3) (omega arith) (omega arith), drawn 2 i 1 (i * 3 + 1) (omega arith) (omega arith))
            (eq-eqb _ _ (left 2 i 2 (i * 3 + 2) (omega arith) (omega arith)).same);
        last_ab = rw (mask 0 (omega arith), mask 1 (omega arith)) (eq-eqb _ _ (last_product 3 (omega arith) (omega arith)));
        last_ac = rw (mask 0 (omega arith), mask 2 (omega arith)) (eq-eqb _ _ (last_product 4 (omega arith) (omega arith)));
        last_bc = rw (mask 1 (omega arith), mask 2 (omega arith)) (eq-eqb _ _ (last_product 5 (omega arith) (omega arith)));
        last_abc =
            rw (mask 0 (omega arith), mask 1 (omega arith), mask 2 (omega arith)) (eq-eqb _ _ (last_product 6 (omega arith) (omega arith)));
      }

-- ---- the call

module _ (seed n pair number : ℕ) (t1 t2 : List ℕ) where
  -- not refused
  pub deal_taken : 0 < seed → listed n ≡ true → length t1 ≡ tape_length n → length t2 ≡ tape_length n
      → deal_rule seed n pair number t1 t2
      ≡ record { refusal = 0; tape1 = dealt_tape seed n pair 1 number; tape2 = dealt_tape seed n pair 2 number }
  unfolding deal_rule
  deal_taken some width long1 long2 = rw (no_ground seed n t1 t2 (λ none. omega (arith, some, none)) width long1 long2)

  -- nor is a call that asks for that
  pub deal_ok : (answer : Result ⊤ Refusal) (new1 new2 : List ℕ) → outcome answer new1 new2 ≡ deal_rule seed n pair number t1 t2
      → 0 < seed → listed n ≡ true → length t1 ≡ tape_length n → length t2 ≡ tape_length n → IsOk answer
  deal_ok answer new1 new2 told some width long1 long2 =
      goes_on answer (ap (λ (d : Deal). d.refusal) (told ∙ deal_taken some width long1 long2))

  pub deal_seedless : seed ≡ 0 → (deal_rule seed n pair number t1 t2).refusal ≡ 14
  unfolding deal_rule
  deal_seedless none = rw (seed_ground seed n t1 t2 none)

  deal_refused : (deal_ground seed n t1 t2 ≡ 0 → ⊥)
      → deal_rule seed n pair number t1 t2 ≡ record { refusal = deal_ground seed n t1 t2; tape1 = t1; tape2 = t2 }
  unfolding deal_rule
  deal_refused some = rw (ne_eqb (deal_ground seed n t1 t2) 0 some)

  pub dealing : Dealing seed n pair number t1 t2
  unfolding deal_ground
  dealing =
      record {
        first = refl;
        order = refl;
        refuses = deal_refused;
        deals = λ some width long1 long2.
            rw (deal_taken some width long1 long2) (refl, dealt_tapes seed n pair number width);
      }
