-- What a reader of a handed out section of a readable tape needs: its words are below p, and its length.
use Prim.Native.Nat.{ℕ, ◌<◌}
use mathlib.Core.Path.{◌≡◌}
use mathlib.Core.List.{List}
use lib.ListN.{length}
use Rattle.field.specs.Width.{modulus}
use Rattle.tape.specs.Layout.{section_length, section}
use Rattle.tape.specs.Order.{Readable}
use Rattle.tape.proofs.Sections.{section_length_lem}
use Rattle.protocol.specs.Words.{Below}
use Rattle.compare.proofs.Parts.{section_words}

pub record Sound (n which : ℕ) (words : List ℕ) : Type 0 where
  pub below : Below (modulus n) words
  pub long : length words ≡ section_length n which

pub sound : {n : ℕ} {tape : List ℕ} → Readable n tape → (which : ℕ) → which < 3 → (words : List ℕ) → words ≡ section n which tape
    → Sound n which words
sound r which l words e = rw e record { below = section_words r which l; long = section_length_lem r which l }
