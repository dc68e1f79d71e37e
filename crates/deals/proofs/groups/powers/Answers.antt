-- `deals::groups::powers` meets its contract: k is the first draw modulo n, box 1's words are the next draws, box 2's are left of the powers.
use Prim.Native.Nat.{ℕ, ◌+◌, ◌-◌, ◌%◌, ◌^◌, ◌<◌}
use mathlib.Core.Path.{◌≡◌, sym, ap, ap₂, ◌∙◌}
use mathlib.Core.List.{List}
use native.Mathlib.Nat.{le_of_lt, mod-lt}
use native.Mathlib.Omega.{arith}
use lib.ListN.{length, get_or}
use Rattle.field.specs.Width.{modulus}
use Rattle.field.proofs.Widths.{bounds}
use Rattle.draws.specs.Draws.{next, draw}
use Rattle.draws.proofs.Draws.{draw_one}
use Rattle.deals.specs.Groups.{exponent}
use Rattle.deals.specs.Steps.{drawn_words}
use Rattle.deals.proofs.Products.{length_drawn, drawn_below}
use Rattle.deals.proofs.Powers.{first_powers, last_power, second_powers}
use Rattle.deals.proofs.groups.powers.Goals.{After-fill-last, After-next-first}
use Rattle.deals.proofs.groups.powers.Goals as goal

some_width : (c : After-next-first) → 0 < c.args.n.bits
some_width c = omega (arith, bounds c.args.n.listed)

module _ (f : After-fill-last) where
  abbrev n : ℕ
  n = f.args.n.bits

  abbrev v : ℕ
  v = f.args.v

  -- k
  choice : f.next-first.result % n ≡ exponent n v
  choice = ap (λ (d : ℕ). d % n) (f.next-first.ensures ∙ sym (draw_one v))

  inverse_is : f.power_of_two-w.result ≡ 2 ^ ((n - exponent n v) % n)
  inverse_is = f.power_of_two-w.ensures.value ∙ ap (λ (k : ℕ). 2 ^ ((n - k) % n)) choice

  root_is : f.power_of_two-r.result ≡ 2 ^ exponent n v
  root_is = f.power_of_two-r.ensures.value ∙ ap (λ (k : ℕ). 2 ^ k) choice

  own_drawn : f.fill-last.new.words ≡ drawn_words n (next v) (n + 1)
  own_drawn = f.fill-last.ensures.filled ∙ ap₂ (drawn_words n) f.next-first.ensures f.requires.0

  own_below : (words : List ℕ) → words ≡ drawn_words n (next v) (n + 1) → (j : ℕ) → j < length words → get_or words j 0 < modulus n
  own_below words e j l =
      rw e (drawn_below n (next v) (n + 1) j f.args.n.listed (omega (arith, ap length e ∙ length_drawn n (next v) (n + 1), l)))

pub returns : goal.returns
returns c =
    let f = (goal.at.returns c).After-fill-last in
    record {
      value = c.fill-last.ensures.value ∙ ap₂ draw c.next-first.ensures c.requires.0 ∙ last_power c.args.n.bits c.args.v;
      box1 = own_drawn f ∙ first_powers c.args.n.bits c.args.v;
      box2 = c.left_powers.ensures ∙ second_powers c.args.n.bits c.args.v _ _ (inverse_is f) (root_is f) c.power_of_two-w.ensures.below _ (own_drawn f);
    }

pub nonzero_rem-k : goal.nonzero_rem-k
nonzero_rem-k c = some_width (goal.at.nonzero_rem-k c).After-next-first

pub overflow_sub-n : goal.overflow_sub-n
overflow_sub-n c = le_of_lt (mod-lt c.next-first.result (some_width (goal.at.overflow_sub-n c).After-next-first))

pub nonzero_rem-n : goal.nonzero_rem-n
nonzero_rem-n c = some_width (goal.at.nonzero_rem-n c).After-next-first

pub power_of_two-w-requires : goal.power_of_two-w-requires
power_of_two-w-requires c = mod-lt _ (some_width (goal.at.power_of_two-w-requires c).After-next-first)

pub power_of_two-r-requires : goal.power_of_two-r-requires
power_of_two-r-requires c = mod-lt _ (some_width (goal.at.power_of_two-r-requires c).After-next-first)

pub left_powers-requires-clause-below : goal.left_powers-requires-clause-below
left_powers-requires-clause-below c =
    let f = (goal.at.left_powers-requires-clause-below c).After-fill-last in
    own_below f _ (own_drawn f)
