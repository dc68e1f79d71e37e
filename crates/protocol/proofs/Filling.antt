-- What stands in each place of out once the last words of a message were filled in; all of them are the message at the front.
use Prim.Native.Nat.{ℕ, ◌+◌, ◌-◌, ◌<◌, ◌≤◌}
use mathlib.Core.Path.{◌≡◌, refl, sym, ap, ◌∙◌}
use mathlib.Core.List.{List, [], ◌∷◌}
use mathlib.Core.Logic.{◌⊎◌, ⊎_elim, inl, inr}
use native.Mathlib.Nat.{sub_self}
use native.Mathlib.Omega.{arith}
use lib.ListN.{length, get_or, drop, length-drop}
use lib.Seq.{sets, length-sets, get_or-drop}
use Rattle.lists.proofs.Sets.{get_or_sets_in, get_or_sets_out}
use Rattle.protocol.specs.Filling.{filled}

-- of three words the last two, in an out of four
example : filled (9 ∷ 9 ∷ 9 ∷ 9 ∷ []) (1 ∷ 2 ∷ 3 ∷ []) 2 ≡ 9 ∷ 2 ∷ 3 ∷ 9 ∷ []
unfolding filled
example = refl

pub filled_whole : (out words : List ℕ) → filled out words (length words) ≡ sets out 0 words
unfolding filled
filled_whole out words = ap (λ (k : ℕ). sets out k (drop k words)) (sub_self (length words))

module _ (out words : List ℕ) (count : ℕ) where
  -- the last `count` words stand in their places
  pub filled_in : (j : ℕ) → length words - count ≤ j → j < length words → length words ≤ length out
      → get_or (filled out words count) j 0 ≡ get_or words j 0
  unfolding filled
  filled_in j low high room =
      let from = length words - count in
      let i = j - from in
      let at : from + i ≡ j = omega arith in
      let long = length-drop from words in
      ap (λ (k : ℕ). get_or (sets out from (drop from words)) k 0) (sym at)
      ∙ get_or_sets_in out from (drop from words) i (omega (arith, long)) (omega (arith, long))
      ∙ get_or-drop from words i 0
      ∙ ap (λ (k : ℕ). get_or words k 0) at

  -- all other places are as they were
  pub filled_out : (j : ℕ) → (j < length words - count) ⊎ (length words ≤ j) → get_or (filled out words count) j 0 ≡ get_or out j 0
  unfolding filled
  filled_out j beside =
      let from = length words - count in
      let long = length-drop from words in
      get_or_sets_out out from (drop from words) j
      (⊎_elim (λ low. inl low) (λ high. inr (omega (arith, long))) beside)

pub filled_length : (out words : List ℕ) (count : ℕ) → length (filled out words count) ≡ length out
unfolding filled
filled_length out words count = length-sets out (length words - count) (drop (length words - count) words)
