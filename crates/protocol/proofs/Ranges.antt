-- Words below p: those that a function gives, and those of a message of any round. What is read past the end is 0, which is below p too.
use Prim.Native.Nat.{ℕ, ◌+◌, ◌-◌, ◌*◌, ◌%◌, ◌<◌}
use mathlib.Core.Path.{◌≡◌}
use mathlib.Core.Bool.{Bool, true, false, cond}
use mathlib.Core.List.{List, [], ◌++◌}
use mathlib.Core.Logic.{by_cases}
use native.Mathlib.Decide.{dec_lt}
use native.Mathlib.Omega.{arith}
use lib.Dec.{eqb}
use lib.ListN.{length, get_or-append, get_or-eq_default}
use lib.Seq.{get_or-append-add}
use Rattle.lists.specs.Tabulate.{tabulate}
use Rattle.lists.proofs.Tabulate.{length_tabulate, get_d_tabulate}
use Rattle.field.specs.Width.{modulus, listed}
use Rattle.field.proofs.Widths.{bounds}
use Rattle.shares.proofs.Products.{masked_below}
use Rattle.tape.specs.Layout.{square_count, group_count}
use Rattle.protocol.specs.Words.{Below}
use Rattle.protocol.proofs.ByRound.{at_each}
use Rattle.protocol.specs.Work.{held}
use Rattle.protocol.specs.Products.{Party, Products, open_left, open_right, alternating, openings}
use Rattle.protocol.specs.Answer.{half_opening}
use Rattle.protocol.specs.Rounds.{square_word, low_products, level_products, wrap_products, half_word, message_table, message}
use Rattle.protocol.proofs.Reading.{held_below}

-- words that a function below p gives
pub tabulated_below : {p : ℕ} (count : ℕ) (f : ℕ → ℕ) → ((i : ℕ) → f i < p) → Below p (tabulate count f)
tabulated_below count f h =
    record {
      at = λ i. by_cases (dec_lt i count)
          (λ inside. rw (get_d_tabulate count f i 0 inside) (h i))
          (λ outside. rw (get_or-eq_default (tabulate count f) 0 {n = i} (rw (length_tabulate count f) (omega arith))) (omega (arith, h 0)));
    }

choice_below : {p a b : ℕ} (t : Bool) → a < p → b < p → cond t a b < p
choice_below true la lb = la
choice_below false la lb = lb

-- one list after another
append_below : {p : ℕ} (l m : List ℕ) → Below p l → Below p m → Below p (l ++ m)
append_below l m bl bm =
    record {
      at = λ i. by_cases (dec_lt i (length l))
          (λ inside. rw (get_or-append l m 0 i inside) (bl.at i))
          (λ outside.
          let rest : ℕ = i - length l in
          let place : length l + rest ≡ i = omega arith in
          rw (← place, get_or-append-add l m rest 0) (bm.at rest));
    }

module _ (b : Party) where
  module _ (l : listed b.n ≡ true) where
    none_below : Below (modulus b.n) []
    none_below = record { at = λ i. omega (arith, bounds l, get_or-eq_default {A = ℕ} [] 0 {n = i} (omega arith)) }

    openings_below : (ps : Products) → Below (modulus b.n) (openings b ps)
    unfolding openings open_left open_right
    openings_below ps =
        tabulated_below (ps.count * 2) (alternating (open_left b ps) (open_right b ps))
        (λ j. choice_below (eqb (j % 2) 0) (masked_below b.n _ _ l) (masked_below b.n _ _ l))

    squares_below : Below (modulus b.n) (tabulate (square_count b.n) (square_word b))
    unfolding square_word
    squares_below = tabulated_below (square_count b.n) (square_word b) (λ j. masked_below b.n _ _ l)

    halves_below : (work : List ℕ) → Below (modulus b.n) (tabulate 3 (half_word b work))
    unfolding half_word half_opening
    halves_below work = tabulated_below 3 (half_word b work) (λ k. masked_below b.n _ _ l)

    pub message_below : (work : List ℕ) (round : ℕ) → Below (modulus b.n) (message b work round)
    unfolding message
    message_below work round =
        at_each (Below (modulus b.n)) (message_table b work) [] (
          append_below (tabulate (square_count b.n) (square_word b)) (openings b (low_products b)) squares_below (openings_below (low_products b)),
          (
            openings_below (level_products b work),
            (
              tabulated_below (group_count b.n) (λ g. held b.n work g) (λ g. held_below b.n work g l),
              (
                openings_below (wrap_products b work),
                (halves_below work, tt),
              ),
            ),
          ),
        )
        none_below round
