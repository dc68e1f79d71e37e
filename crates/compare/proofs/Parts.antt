-- The sections of a readable tape are words below p. What is read past the end is 0, which is below p too.
use Prim.Native.Nat.{ℕ, ◌<◌}
use mathlib.Core.List.{List}
use mathlib.Core.Logic.{by_cases}
use native.Mathlib.Decide.{dec_lt}
use native.Mathlib.Omega.{arith}
use lib.ListN.{get_or-eq_default}
use Rattle.field.specs.Width.{modulus}
use Rattle.field.proofs.Widths.{bounds}
use Rattle.tape.specs.Layout.{section, section_length}
use Rattle.tape.specs.Order.{Readable}
use Rattle.tape.proofs.Sections.{section_length_lem, section_below}
use Rattle.protocol.specs.Words.{Below}

module _ {n : ℕ} {tape : List ℕ} (r : Readable n tape) (which : ℕ) (l : which < 3) where
  pub section_words : Below (modulus n) (section n which tape)
  section_words =
      record {
        at = λ i. by_cases (dec_lt i (section_length n which))
            (λ inside. section_below r which l i inside)
            (λ outside. rw (get_or-eq_default (section n which tape) 0 {n = i} (omega (arith, section_length_lem r which l)))
            (omega (arith, bounds r.width)));
      }
