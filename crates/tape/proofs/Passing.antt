-- Words of a tape that are passed over because they are below p, from one place to another.
use Prim.Native.Nat.{ℕ, ◌+◌, ◌-◌, ◌<◌, ◌≤◌}
use mathlib.Core.Path.{◌≡◌, sym, ap, ◌∙◌, subst}
use mathlib.Core.Bool.{true}
use mathlib.Core.List.{List, ◌++◌}
use mathlib.Core.Logic.{by_cases}
use native.Mathlib.Decide.{dec_lt}
use native.Mathlib.Omega.{arith}
use borrow.Author.Tests.{ltb-true}
use lib.Dec.{ltb}
use lib.ListN.{length, get_or, take, drop, length-drop, length-append}
use lib.Seq.{length-take-le, get_or-take, get_or-drop, drop-append_seam, take-append_seam}
use Rattle.std.proofs.lemmas.List.{drop-drop}
use Rattle.lists.specs.Every.{every}
use Rattle.lists.proofs.Every.{every_at}
use Rattle.field.specs.Width.{modulus}

abbrev pub Between : List ℕ → ℕ → ℕ → ℕ → Type 0
Between tape n from to = (k : ℕ) → from ≤ k → k < to → get_or tape k 0 < modulus n

module _ (tape : List ℕ) (n : ℕ) where
  pub none_between : (i : ℕ) → Between tape n i i
  none_between i k low less = absurd (omega arith)

  pub between_join : (from middle to : ℕ) → Between tape n from middle → Between tape n middle to → Between tape n from to
  between_join from middle to first second k low less =
      by_cases (dec_lt k middle) (λ before. first k low before) (λ past. second k (omega arith) less)

  -- one word more
  pub between_one : (from i : ℕ) → Between tape n from i → get_or tape i 0 < modulus n → Between tape n from (i + 1)
  between_one from i old new =
      between_join from i (i + 1) old (λ k low less. subst (λ (j : ℕ). get_or tape j 0 < modulus n) (omega arith) new)

  -- a part that was tested whole
  pub part_between : (i to : ℕ) → i ≤ to → to ≤ length tape
      → let part = take (to - i) (drop i tape) in
      every (length part) (λ k. ltb (get_or part k 0) (modulus n)) ≡ true → Between tape n i to
  part_between i to up inside all k low less =
      let count = to - i in
      let part = take count (drop i tape) in
      let j = k - i in
      let long : length part ≡ count = length-take-le count (drop i tape) (simp length-drop (omega arith)) in
      let fits = ltb-true (get_or part j 0) (modulus n) (every_at (length part) (λ m. ltb (get_or part m 0) (modulus n)) all j (omega (arith, long))) in
      let here : i + j ≡ k = omega arith in
      subst (λ (m : ℕ). get_or tape m 0 < modulus n) here (rw (← get_or-drop i tape j 0, ← get_or-take count (drop i tape) j 0 (omega arith)) fits)

-- ---- a block that comes off the front of what is left

module _ (words block after : List ℕ) (passed : ℕ) (within : passed ≤ length words) (left : drop passed words ≡ block ++ after) where
  pub block_within : passed + length block ≤ length words
  block_within = omega (arith, ap length left, length-drop passed words, length-append block after)

  pub block_rest : after ≡ drop (passed + length block) words
  block_rest = sym (sym (drop-drop (length block) passed words) ∙ ap (λ (l : List ℕ). drop (length block) l) left ∙ drop-append_seam block after)

  pub block_between : (n : ℕ) → Between words n 0 passed → every (length block) (λ k. ltb (get_or block k 0) (modulus n)) ≡ true
      → Between words n 0 (passed + length block)
  block_between n old tested =
      let count : passed + length block - passed ≡ length block = omega arith in
      let part : take (passed + length block - passed) (drop passed words) ≡ block = rw (count, left) (take-append_seam block after) in
      between_join words n 0 passed (passed + length block) old
      (part_between words n passed (passed + length block) (omega arith) block_within
      (subst (λ (l : List ℕ). every (length l) (λ k. ltb (get_or l k 0) (modulus n)) ≡ true) (sym part) tested))

-- ---- a part of the tape that was passed over in two parts, the second word by word

module _ (tape : List ℕ) (from to passed : ℕ) (up : from ≤ to) (inside : to ≤ length tape) where
  abbrev pub part : List ℕ
  part = take (to - from) (drop from tape)

  abbrev pub later : List ℕ
  later = take (length part - passed) (drop passed part)

  pub length_part : length part ≡ to - from
  length_part = length-take-le (to - from) (drop from tape) (simp length-drop (omega arith))

  pub length_later : length later ≡ length part - passed
  length_later = length-take-le (length part - passed) (drop passed part) (simp length-drop (omega arith))

  part_word : (k : ℕ) → k < to - from → get_or part k 0 ≡ get_or tape (from + k) 0
  part_word k l = get_or-take (to - from) (drop from tape) k 0 l ∙ get_or-drop from tape k 0

  -- a word that is read by itself
  pub later_word : (k : ℕ) → passed + k < length part → get_or later k 0 ≡ get_or tape (from + (passed + k)) 0
  later_word k l =
      get_or-take (length part - passed) (drop passed part) k 0 (omega arith)
      ∙ get_or-drop passed part k 0
      ∙ part_word (passed + k) (omega (arith, length_part, l))

  pub part_passed : (n : ℕ) → passed ≤ length part → ((k : ℕ) → k < passed → get_or part k 0 < modulus n)
      → ((k : ℕ) → passed + k < length part → get_or later k 0 < modulus n) → Between tape n from to
  part_passed n most first second k low less =
      let j = k - from in
      let here : from + j ≡ k = omega arith in
      let within : j < to - from = omega arith in
      by_cases (dec_lt j passed)
      (λ before. subst (λ (m : ℕ). get_or tape m 0 < modulus n) here (rw (← part_word j within) (first j before)))
      (λ past.
      let i = j - passed in
      let back : from + (passed + i) ≡ k = omega arith in
      let below : passed + i < length part = omega (arith, length_part, within, back) in
      subst (λ (m : ℕ). get_or tape m 0 < modulus n) back (rw (← later_word i below) (second i below)))
