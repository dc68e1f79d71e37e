-- Which text a line gets, by what was read and what was told of it.
use Prim.Native.Nat.{ℕ}
use Rattle.std.specs.Prelude.{Ok, Err}
use mathlib.Core.Path.{◌≡◌, refl}
use mathlib.Core.Bool.{true, false}
use mathlib.Core.List.{List}
use native.Mathlib.Omega.{arith}
use borrow.Author.Tests.{ne_eqb}
use lib.ListN.{get_or}
use Rattle.refusals.specs.Numbers.{number_of}
use Rattle.refusals.specs.declared.Refusal.{Refusal}
use Rattle.refusals.proofs.Numbers.{numbered}
use Rattle.lines.specs.Reading.{is_line, line_numbers}
use Rattle.lines.specs.Writing.{refused_text}
use Rattle.needs.specs.Figures.{needs_rule, figures_of, told}
use Rattle.needs.specs.declared.Needs.{Needs}
use Rattle.plan.specs.Printed.{figures_text, text_for, printed}

pub not_two : (text : List ℕ) → is_line 2 text ≡ false → printed text ≡ refused_text 0
unfolding printed
not_two text e = rw e refl

pub two_read : (text numbers : List ℕ) → is_line 2 text ≡ true → numbers ≡ line_numbers text
    → printed text ≡ text_for (get_or numbers 0 0) (get_or numbers 1 0)
unfolding printed
two_read text numbers e read = rw (e, read) refl

module _ (n count : ℕ) where
  pub turned_down : (refusal : Refusal) → told (Err refusal) ≡ needs_rule n count → text_for n count ≡ refused_text (number_of refusal)
  unfolding text_for
  turned_down refusal rule = rw (← rule, ne_eqb (number_of refusal) 0 (λ zero. omega (arith, zero, numbered refusal))) refl

  pub taken : (needs : Needs) → told (Ok needs) ≡ needs_rule n count → text_for n count ≡ figures_text (figures_of needs)
  unfolding text_for
  taken needs rule = rw (← rule) refl

pub ruleset texts = (not_two, two_read, turned_down, taken)
