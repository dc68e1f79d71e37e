-- Lists whose words were all stored.
use Prim.Native.Nat.{ℕ, ◌+◌, ◌-◌, ◌<◌, ◌≤◌}
use mathlib.Core.Path.{◌≡◌, sym, ap, ◌∙◌}
use mathlib.Core.Bool.{◌&&◌, cond}
use mathlib.Core.List.{List, ◌++◌}
use mathlib.Core.Logic.{◌⊎◌, inl, inr, ⊎_elim}
use native.Mathlib.Nat.{zero-add}
use native.Mathlib.Omega.{arith}
use lib.Dec.{leb, ltb}
use lib.ListN.{length, length-append, get_or, replicate}
use lib.Seq.{sets, length-sets}
use Rattle.std.proofs.lemmas.Bool.{cases_lt}
use Rattle.std.proofs.lemmas.Bool.Decides.{nat_tests}
use Rattle.std.proofs.lemmas.List.{ext_get_or, get_or-replicate, length-replicate}
use Rattle.lists.specs.Tabulate.{tabulate}
use Rattle.lists.proofs.Tabulate.{tabulated}
use Rattle.lists.proofs.Sets.{sets_append, sets_whole, get_or_sets_tabulate, get_or_sets_beside}

-- two runs that fill the list are the list
pub whole : (l vs ws : List ℕ) → length vs + length ws ≡ length l → sets (sets l 0 vs) (length vs) ws ≡ vs ++ ws
whole l vs ws full =
    ap (λ (m : ℕ). sets (sets l 0 vs) m ws) (sym (zero-add (length vs)))
    ∙ sym (sets_append l 0 vs ws)
    ∙ sets_whole l (vs ++ ws) (length-append vs ws ∙ full)

-- 1 from one place to another, and 0 elsewhere
abbrev pub one_between : ℕ → ℕ → ℕ → ℕ
one_between from to j = cond (leb from j && ltb j to) 1 0

-- one word all over
pub repeated : (count word : ℕ) → replicate count word ≡ tabulate count (λ j. word)
repeated count word = tabulated (replicate count word) count (λ j. word) (length-replicate count word) (λ j less. get_or-replicate count j word 0 less)

-- zeros in the front of a list, and ones stored over them from one place to another
module _ (l : List ℕ) (count from to : ℕ) (room : count ≤ length l) (order : from ≤ to) (within : to ≤ count) where
  abbrev zeros : List ℕ
  zeros = sets l 0 (tabulate count (λ j. 0))

  abbrev both : List ℕ
  both = sets zeros from (tabulate (to - from) (λ j. 1))

  long : length zeros ≡ length l
  long = length-sets l 0 (tabulate count (λ j. 0))

  -- a place in the front of a list that holds f there
  front : (f : ℕ → ℕ) (j : ℕ) → j < count → get_or (sets l 0 (tabulate count f)) j 0 ≡ f j
  front f j less = ap (λ (k : ℕ). get_or (sets l 0 (tabulate count f)) k 0) (sym (zero-add j)) ∙ get_or_sets_tabulate l 0 count f j less (omega arith)

  beside : (j : ℕ) → (j < from) ⊎ (to ≤ j) → get_or both j 0 ≡ get_or zeros j 0
  beside j out = get_or_sets_beside zeros from (to - from) (λ j. 1) j (⊎_elim (λ low. inl low) (λ high. inr (omega arith)) out)

  one_at : (j : ℕ) → from ≤ j → j < to → get_or both j 0 ≡ 1
  one_at j high low =
      let there : from + (j - from) ≡ j = omega arith in
      ap (λ (k : ℕ). get_or both k 0) (sym there)
      ∙ get_or_sets_tabulate zeros from (to - from) (λ j. 1) (j - from) (omega arith) (omega (arith, long))

  inside : (j : ℕ) → j < count → get_or both j 0 ≡ one_between from to j
  inside j less =
      ⊎_elim
      (λ before. beside j (inl before) ∙ front (λ j. 0) j less ∙ grind (arith, nat_tests))
      (λ high. ⊎_elim (λ low. one_at j high low ∙ grind (arith, nat_tests)) (λ after. beside j (inr after) ∙ front (λ j. 0) j less ∙ grind (arith, nat_tests)) (cases_lt j to))
      (cases_lt j from)

  past : (j : ℕ) → count ≤ j → get_or both j 0 ≡ get_or l j 0
  past j high = beside j (inr (omega arith)) ∙ get_or_sets_beside l 0 count (λ j. 0) j (inr (omega arith))

  pub ones_stored : both ≡ sets l 0 (tabulate count (one_between from to))
  ones_stored =
      let f = one_between from to in
      ext_get_or 0 _ _ (length-sets zeros from (tabulate (to - from) (λ j. 1)) ∙ long ∙ sym (length-sets l 0 (tabulate count f)))
      (λ j any.
      ⊎_elim (λ less. inside j less ∙ sym (front f j less))
      (λ high. past j high ∙ sym (get_or_sets_beside l 0 count f j (inr (omega arith))))
      (cases_lt j count))
