-- Which text a line gets, by what was read and what the boxes said.
use Rattle.std.proofs.Common.{◌≡◌, ℕ, ◌&&◌, true, false, cond, eqb, leb, List, Result, Ok, Err, get_or, refl, arith}
use borrow.Author.Tests.{ne_eqb}
use Rattle.field.specs.Width.{listed}
use Rattle.refusals.specs.Numbers.{number_of}
use Rattle.refusals.specs.Checks.{ground_of}
use Rattle.refusals.specs.declared.Refusal.{Refusal}
use Rattle.refusals.proofs.Numbers.{numbered}
use Rattle.exchange.specs.Memory.{less_of}
use Rattle.lines.specs.Reading.{is_line, line_numbers}
use Rattle.lines.specs.Writing.{refused_text}
use Rattle.plain.specs.Printed.{plain_refusal, plain_less, plain_answer, answer_text, text_for, printed}

pub not_five : (text : List ℕ) → is_line 5 text ≡ false → printed text ≡ refused_text 0
unfolding printed
not_five text e = rw e refl

pub five : (text numbers : List ℕ) → is_line 5 text ≡ true → numbers ≡ line_numbers text
    → printed text ≡ text_for (get_or numbers 0 0) (get_or numbers 1 0) (get_or numbers 2 0) (get_or numbers 3 0) (get_or numbers 4 0)
unfolding printed
five text numbers e read = rw (e, read) refl

module _ (n x1 x2 y1 y2 : ℕ) where
  -- a width that is not listed, or above 13
  pub no_width : (leb n 13 && listed n) ≡ false → text_for n x1 x2 y1 y2 ≡ refused_text 2
  unfolding text_for plain_refusal
  no_width none = rw none refl

  -- what the boxes said
  module _ (said : Result ℕ Refusal) (told : ground_of said ≡ plain_refusal n x1 x2 y1 y2) where
    pub turned_down : (refusal : Refusal) → said ≡ Err refusal → text_for n x1 x2 y1 y2 ≡ refused_text (number_of refusal)
    unfolding text_for
    turned_down refusal is =
        let e : number_of refusal ≡ plain_refusal n x1 x2 y1 y2 = rw is at told in
        rw (← e, ne_eqb (number_of refusal) 0 (λ zero. omega (arith, zero, numbered refusal))) refl

    pub taken : less_of said ≡ plain_answer n x1 x2 y1 y2 → (less : ℕ) → said ≡ Ok less → text_for n x1 x2 y1 y2 ≡ answer_text n less
    unfolding text_for plain_answer
    taken right less is =
        let none : 0 ≡ plain_refusal n x1 x2 y1 y2 = rw is at told in
        let answer : less ≡ cond (eqb (plain_refusal n x1 x2 y1 y2) 0) (plain_less n x1 x2 y1 y2) 0 = rw is at right in
        let bit : less ≡ plain_less n x1 x2 y1 y2 = rw (← none) at answer in
        rw (← none, bit) refl

pub ruleset texts = (not_five, five, no_width, turned_down, taken)
