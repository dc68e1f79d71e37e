-- The words of a power group, from those that are drawn after k and the powers of r.
use Prim.Native.Nat.{ℕ, zero, suc, ◌+◌, ◌-◌, ◌%◌, ◌^◌, ◌<◌}
use mathlib.Core.Path.{◌≡◌, refl, sym, ap, ap₂, ◌∙◌}
use mathlib.Core.List.{List}
use native.Mathlib.Nat.{mod-eq_of_lt}
use native.Mathlib.Omega.{arith}
use borrow.Author.Tests.{le-ltb}
use lib.ListN.{length, get_or}
use Rattle.lists.specs.Tabulate.{tabulate}
use Rattle.lists.proofs.Tabulate.{get_d_tabulate, tabulate_same}
use Rattle.field.specs.Width.{modulus}
use Rattle.field.specs.Subtraction.{minus}
use Rattle.draws.specs.Draws.{next, draw, word}
use Rattle.draws.proofs.Draws.{draw_one, draw_after}
use Rattle.deals.specs.Groups.{first_word, exponent, total, group_word}
use Rattle.deals.specs.Steps.{drawn_words, power_at}
use Rattle.deals.proofs.Products.{length_drawn}

module _ (n v : ℕ) where
  -- the draws after k
  drawn_after : (j : ℕ) → word n (next v) (suc j) ≡ first_word n 1 v j
  drawn_after j = ap (λ (d : ℕ). d % modulus n) (ap (λ (u : ℕ). draw u (suc j)) (sym (draw_one v)) ∙ draw_after v 1 (suc j))

  pub first_powers : drawn_words n (next v) (n + 1) ≡ tabulate (n + 1) (group_word n 1 1 v)
  unfolding group_word
  first_powers = tabulate_same (n + 1) (λ j. word n (next v) (suc j)) (group_word n 1 1 v) (λ j l. drawn_after j)

  pub last_power : draw (next v) (n + 1) ≡ draw v (n + 2)
  last_power = ap (λ (u : ℕ). draw u (n + 1)) (sym (draw_one v)) ∙ draw_after v 1 (n + 1) ∙ ap (draw v) (omega arith)

  -- box 2's
  module _ (w r : ℕ) (w_is : w ≡ 2 ^ ((n - exponent n v) % n)) (r_is : r ≡ 2 ^ exponent n v) (below : w < modulus n) where
    power_total : (j : ℕ) → power_at n w r j ≡ total n 1 v j % modulus n
    unfolding total
    power_total zero = w_is ∙ sym (mod-eq_of_lt (rw w_is at below))
    power_total (suc j) = rw r_is refl

    left_power : (j : ℕ) → j < n + 1
        → minus n (power_at n w r j) (get_or (drawn_words n (next v) (n + 1)) j 0) ≡ group_word n 2 1 v j
    unfolding group_word
    left_power j l =
        ap₂ (minus n) (power_total j) (get_d_tabulate (n + 1) (λ i. word n (next v) (suc i)) j 0 l ∙ drawn_after j)
        ∙ rw (le-ltb j 0 (omega arith)) refl

    pub second_powers : (w1 : List ℕ) → w1 ≡ drawn_words n (next v) (n + 1)
        → tabulate (length w1) (λ j. minus n (power_at n w r j) (get_or w1 j 0)) ≡ tabulate (n + 1) (group_word n 2 1 v)
    second_powers w1 e =
        ap (λ (words : List ℕ). tabulate (length words) (λ j. minus n (power_at n w r j) (get_or words j 0))) e
        ∙ ap (λ (count : ℕ). tabulate count (λ j. minus n (power_at n w r j) (get_or (drawn_words n (next v) (n + 1)) j 0))) (length_drawn n (next v) (n + 1))
        ∙ tabulate_same (n + 1) _ _ left_power
