-- Words that were not written to; and that a filling of them leaves in every place what must stand there.
use Prim.Native.Nat.{ℕ, ◌+◌, ◌-◌, ◌<◌, ◌≤◌}
use mathlib.Core.Path.{◌≡◌, refl, ◌∙◌}
use mathlib.Core.Bool.{Bool, true, false, ◌&&◌, cond}
use mathlib.Core.List.{List}
use mathlib.Core.Logic.{inl, inr}
use native.Mathlib.Omega.{arith}
use borrow.Author.Tests.{leb-true, leb-false, ltb-true, ltb-false, eq-eqb}
use lib.Dec.{leb, ltb, eqb}
use lib.ListN.{length, get_or, take, length-replicate, get_or-replicate}
use Rattle.std.proofs.lemmas.List.{take-replicate}
use Rattle.lists.proofs.Every.{every_intro}
use Rattle.protocol.specs.Filling.{filled}
use Rattle.protocol.proofs.Filling.{filled_length, filled_in, filled_out}
use Rattle.fills.specs.Due.{filler, blank, due_at, as_due}

pub blank_length : (count : ℕ) → length (blank count) ≡ count
unfolding blank
blank_length count = length-replicate count filler

-- the front of a blank buffer is blank
pub blank_cut : (k m : ℕ) → k ≤ m → take k (blank m) ≡ blank k
unfolding blank
blank_cut k m fits = take-replicate k m filler fits

pub blank_at : (count j : ℕ) → j < count → get_or (blank count) j 0 ≡ filler
unfolding blank
blank_at count j within = get_or-replicate count j filler 0 within

module _ (words : List ℕ) (count : ℕ) where
  filled_place : (j : ℕ) → j < length words + 3 → get_or (filled (blank (length words + 3)) words count) j 0 ≡ due_at words count j
  unfolding due_at
  filled_place j within = go (leb (length words - count) j) (ltb j (length words)) refl refl
    where
      old : get_or (blank (length words + 3)) j 0 ≡ filler
      old = blank_at (length words + 3) j within

      go : (from before : Bool) → leb (length words - count) j ≡ from → ltb j (length words) ≡ before
          → get_or (filled (blank (length words + 3)) words count) j 0 ≡ cond (from && before) (get_or words j 0) filler
      go true true low high =
          filled_in (blank (length words + 3)) words count j (leb-true _ _ low) (ltb-true _ _ high)
          (omega (arith, blank_length (length words + 3)))
      go true false low high = filled_out (blank (length words + 3)) words count j (inr (ltb-false _ _ high)) ∙ old
      go false before low high = filled_out (blank (length words + 3)) words count j (inl (leb-false _ _ low)) ∙ old

  pub filled_due : as_due (filled (blank (length words + 3)) words count) words count ≡ true
  unfolding as_due
  filled_due =
      let out = filled (blank (length words + 3)) words count in
      let long = filled_length (blank (length words + 3)) words count ∙ blank_length (length words + 3) in
      every_intro (length out) (λ j. eqb (get_or out j 0) (due_at words count j)) (λ j l. eq-eqb _ _ (filled_place j (omega (arith, long))))
