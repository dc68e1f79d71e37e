-- The words of a square, a triple or the last group, once those that are drawn stand: box 1's all, box 2's first.
use Prim.Native.Nat.{ℕ, suc, ◌+◌, ◌-◌, ◌*◌, ◌%◌, ◌<◌, ◌≤◌}
use mathlib.Core.Path.{◌≡◌, refl, ap₂, ◌∙◌}
use mathlib.Core.Bool.{true}
use mathlib.Core.List.{List, ◌++◌, append-nil}
use native.Mathlib.Nat.{mod-lt}
use native.Mathlib.Omega.{arith}
use lib.ListN.{length, get_or, length-append, get_or-append, drop_of_length-le}
use lib.Seq.{sets, sets-eq, take_at}
use Rattle.lists.proofs.Tabulate.{length_tabulate, get_d_tabulate}
use Rattle.field.specs.Width.{listed, modulus}
use Rattle.field.specs.Congruence.{Cong}
use Rattle.field.proofs.Widths.{bounds}
use Rattle.field.proofs.Congruences.{cong_eq, ◌⊙◌, cong_mod, cong_mul}
use Rattle.draws.specs.Draws.{draw, word}
use Rattle.deals.specs.Steps.{drawn_words, product_left}

-- drawn words are below p
pub drawn_below : (n v count j : ℕ) → listed n ≡ true → j < count → get_or (drawn_words n v count) j 0 < modulus n
drawn_below n v count j width l =
    rw (get_d_tabulate count (λ i. word n v (suc i)) j 0 l) (mod-lt (draw v (suc j)) (omega (arith, bounds width)))

pub length_drawn : (n v count : ℕ) → length (drawn_words n v count) ≡ count
length_drawn n v count = length_tabulate count (λ j. word n v (suc j))

-- the factors of a product are reduced or not
pub same_product : (p u v a b : ℕ) → a ≡ u % p → b ≡ v % p → a * b % p ≡ u * v % p
same_product p u v a b ea eb =
    let same : Cong p (a * b) (u * v) = cong_mul (cong_eq {a = a} ea ⊙ cong_mod) (cong_eq {a = b} eb ⊙ cong_mod) in
    same.same

-- both boxes' words, as box 2's others are worked out from its first, which are drawn
pub record Drawn (n count free : ℕ) (w1 w2 : List ℕ) : Type 0 where
  pub long1 : length w1 ≡ count
  pub long2 : length w2 ≡ count
  pub below1 : (j : ℕ) → j < count → get_or w1 j 0 < modulus n
  pub below2 : (j : ℕ) → j < free → get_or w2 j 0 < modulus n

module _ (n v count free : ℕ) (rest : List ℕ) where
  abbrev own : List ℕ
  own = drawn_words n v count

  abbrev others : List ℕ
  others = drawn_words n (draw v count) free

  in_front_lem : (j : ℕ) → j < free → get_or (others ++ rest) j 0 ≡ get_or others j 0
  in_front_lem j l = get_or-append others rest 0 j (omega (arith, l, length_drawn n (draw v count) free))

  pub drawn : listed n ≡ true → free + length rest ≡ count → {w1 front : List ℕ} → w1 ≡ own → front ≡ others → Drawn n count free w1 (front ++ rest)
  drawn width all e1 e2 = rw (e1, e2) words
    where
      words : Drawn n count free own (others ++ rest)
      words =
          record {
            long1 = length_drawn n v count;
            long2 = omega (arith, length-append others rest, length_drawn n (draw v count) free, all);
            below1 = λ j l. drawn_below n v count j width l;
            below2 = λ j l. rw (in_front_lem j l) (drawn_below n (draw v count) free j width l);
          }

-- what is left does not depend on the words that are not drawn
pub product_same : (n v count : ℕ) (rest : List ℕ) → 2 ≤ count
    → product_left n (drawn_words n v count) (drawn_words n (draw v count) (count - 1) ++ rest)
    ≡ product_left n (drawn_words n v count) (drawn_words n (draw v count) (count - 1))
product_same n v count rest some =
    let last = length (drawn_words n v count) - 1 - 1 in
    let less : last < count - 1 = omega (arith, length_drawn n v count) in
    rw (in_front_lem n v count (count - 1) rest 0 (omega arith), in_front_lem n v count (count - 1) rest last less) refl

-- it is stored behind them
pub set_rest : (front rest left : List ℕ) (count : ℕ) → length front ≡ count → length rest ≡ length left
    → sets (front ++ rest) count left ≡ front ++ left
set_rest front rest left count long same =
    let all : length (front ++ rest) ≡ count + length left = omega (arith, length-append front rest, long, same) in
    sets-eq left (front ++ rest) count (omega (arith, all))
    ∙ ap₂ (λ (first last : List ℕ). first ++ left ++ last) (take_at front rest count long)
    (drop_of_length-le (front ++ rest) {i = count + length left} (omega (arith, all)))
    ∙ append-nil (front ++ left)
