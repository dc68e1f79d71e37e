-- Which word stands where on a dealt tape: kind after kind, group after group within a kind, then the trailer.
use Prim.Native.Nat.{ℕ, zero, suc, ◌+◌, ◌-◌, ◌*◌, ◌<◌, ◌≤◌}
use mathlib.Core.Path.{◌≡◌, refl, sym, ap, ◌∙◌}
use mathlib.Core.List.{List, [], ◌++◌, append_assoc}
use mathlib.Core.Logic.{by_cases, ⊎_elim}
use native.Mathlib.Nat.{le_of_suc-le-suc, eq-or-lt_of_le, add-zero, mod-eq_of_lt, div-eq_of_lt, mul-add-div_right, mul-add-mod_self_right}
use native.Mathlib.Decide.{dec_lt}
use native.Mathlib.Omega.{arith}
use lib.ListN.{length, get_or, length-append, get_or-append}
use lib.Seq.{sets, get_or-append-add}
use Rattle.lists.specs.Tabulate.{tabulate}
use Rattle.lists.proofs.Tabulate.{length_tabulate, get_d_tabulate, tabulate_same}
use Rattle.draws.specs.Draws.{draw}
use Rattle.tape.specs.Layout.{triple_count, section_length, section_start, section, body_length, tape_length, trailer}
use Rattle.tape.proofs.Sections.{section_at}
use Rattle.tape.proofs.Letters.{row_place}
use Rattle.dealer.proofs.Stores.{whole}
use Rattle.deals.specs.Groups.{groups_of, group_length, group_draws, group_word}
use Rattle.deals.specs.Deals.{draws_before, kind_length, kind_word, dealt_kind, dealt_body, dealt_tape}

-- ---- in the body

-- the words before a kind's
abbrev pub kind_start : ℕ → ℕ → ℕ
kind_start n zero = 0
kind_start n (suc kind) = kind_start n kind + kind_length n kind

-- the four kinds fill the body
pub body_kinds : (n : ℕ) → kind_start n 4 ≡ body_length n
body_kinds n = omega arith

-- the first so many kinds leave no place out
pub each_place : (P : ℕ → Type 0) (n kinds : ℕ)
    → ((kind at : ℕ) → kind < kinds → at < kind_length n kind → P (kind_start n kind + at))
    → (i : ℕ) → i < kind_start n kinds → P i
each_place P n zero h i l = absurd (omega (arith, l))
each_place P n (suc kinds) h i l =
    by_cases (dec_lt i (kind_start n kinds))
    (λ earlier. each_place P n kinds (λ kind at k inside. h kind at (omega arith) inside) i earlier)
    (λ later.
    let at = i - kind_start n kinds in
    let there : kind_start n kinds + at ≡ i = omega arith in
    rw there at (h kinds at (omega arith) (omega arith)))

-- ---- in a section

-- the section that a kind's words stand in, and those of it before them: the last group stands behind the triples
abbrev pub section_of : ℕ → ℕ
section_of zero = 0
section_of (suc zero) = 1
section_of (suc (suc kind)) = 2

abbrev pub in_front : ℕ → ℕ → ℕ
in_front n zero = 0
in_front n (suc zero) = 0
in_front n (suc (suc zero)) = 0
in_front n (suc (suc (suc kind))) = triple_count n * 3

-- where a kind's words stand, in their section and in the body
pub record Stands (n kind : ℕ) : Type 0 where
  pub inside : in_front n kind + kind_length n kind ≤ section_length n (section_of kind)
  pub begins : section_start n (section_of kind) + in_front n kind ≡ kind_start n kind
  pub within : kind_start n kind + kind_length n kind ≤ body_length n

pub stands : (n kind : ℕ) → kind < 4 → Stands n kind
stands n zero l = omega arith
stands n (suc zero) l = omega arith
stands n (suc (suc zero)) l = omega arith
stands n (suc (suc (suc zero))) l = omega arith
stands n (suc (suc (suc (suc kind)))) l = absurd (omega (arith, l))

-- ---- in a group

-- place i of the kind's section holds word j of group g
pub record Holds (n kind g j i : ℕ) : Type 0 where
  pub few : kind < 4
  pub group : g < groups_of n kind
  pub word : j < group_length n kind
  pub there : i ≡ in_front n kind + (g * group_length n kind + j)

-- that word is the group's, whose draws come after those of the earlier groups
pub group_at : (n side kind v g j : ℕ) → j < group_length n kind
    → kind_word n side kind v (g * group_length n kind + j) ≡ group_word n side kind (draw v (g * group_draws n kind)) j
unfolding kind_word
group_at n side kind v g j l =
    let some : 0 < group_length n kind = omega arith in
    rw (
      mul-add-div_right some g j,
      mul-add-mod_self_right g (group_length n kind) j,
      div-eq_of_lt l,
      mod-eq_of_lt l,
      add-zero g,
    )

-- a group's words as those of its kind
pub group_part : (n side kind v g last at : ℕ) (part : List ℕ) → last ≡ draw v (g * group_draws n kind) → at ≡ g * group_length n kind
    → part ≡ tabulate (group_length n kind) (group_word n side kind last)
    → part ≡ tabulate (group_length n kind) (λ j. kind_word n side kind v (at + j))
group_part n side kind v g last at part drawn there words =
    words
    ∙ ap (λ (u : ℕ). tabulate (group_length n kind) (group_word n side kind u)) drawn
    ∙ tabulate_same (group_length n kind) _ _ (λ j l. rw there (sym (group_at n side kind v g j l)))

-- ---- on the tape

-- the last draw before a kind's groups, and before one of them
abbrev pub before_kind : ℕ → ℕ → ℕ → ℕ
before_kind seed n kind = draw seed (draws_before n kind)

abbrev pub before_group : ℕ → ℕ → ℕ → ℕ → ℕ
before_group seed n kind g = draw (before_kind seed n kind) (g * group_draws n kind)

module _ (seed n side : ℕ) where
  -- the first so many kinds
  abbrev pub first_kinds : ℕ → List ℕ
  first_kinds zero = []
  first_kinds (suc kinds) = first_kinds kinds ++ dealt_kind seed n side kinds

  pub kind_long : (kind : ℕ) → length (dealt_kind seed n side kind) ≡ kind_length n kind
  kind_long kind = length_tabulate (kind_length n kind) (kind_word n side kind (before_kind seed n kind))

  pub first_long : (kinds : ℕ) → length (first_kinds kinds) ≡ kind_start n kinds
  first_long zero = refl
  first_long (suc kinds) =
      length-append (first_kinds kinds) (dealt_kind seed n side kinds) ∙ omega (arith, first_long kinds, kind_long kinds)

  -- the kind after them
  next_at_lem : (kind : ℕ) (rest : List ℕ) (at : ℕ) → at < kind_length n kind
      → get_or (first_kinds kind ++ (dealt_kind seed n side kind ++ rest)) (kind_start n kind + at) 0
      ≡ kind_word n side kind (before_kind seed n kind) at
  next_at_lem kind rest at inside =
      let own = dealt_kind seed n side kind in
      rw (← first_long kind) (get_or-append-add (first_kinds kind) (own ++ rest) at 0)
      ∙ get_or-append own rest 0 at (omega (arith, kind_long kind))
      ∙ get_d_tabulate (kind_length n kind) (kind_word n side kind (before_kind seed n kind)) at 0 inside

  first_at : (kinds : ℕ) (rest : List ℕ) (kind at : ℕ) → kind < kinds → at < kind_length n kind
      → get_or (first_kinds kinds ++ rest) (kind_start n kind + at) 0 ≡ kind_word n side kind (before_kind seed n kind) at
  first_at zero rest kind at l inside = absurd (omega (arith, l))
  first_at (suc kinds) rest kind at l inside =
      let last = dealt_kind seed n side kinds in
      rw (append_assoc (first_kinds kinds) last rest)
      (⊎_elim
      (λ (same : kind ≡ kinds). rw same (next_at_lem kinds rest at (rw same at inside)))
      (λ less. first_at kinds (last ++ rest) kind at less inside)
      (eq-or-lt_of_le (le_of_suc-le-suc l)))

module _ (seed n pair side number : ℕ) where
  abbrev tape : List ℕ
  tape = dealt_tape seed n pair side number

  body_long : length (dealt_body seed n side) ≡ body_length n
  body_long = first_long seed n side 4 ∙ body_kinds n

  pub tape_long : length (dealt_tape seed n pair side number) ≡ tape_length n
  unfolding dealt_tape
  tape_long = length-append (dealt_body seed n side) (trailer n pair side number) ∙ omega (arith, body_long)

  pub trailer_at : (k : ℕ) → get_or (dealt_tape seed n pair side number) (body_length n + k) 0 ≡ get_or (trailer n pair side number) k 0
  unfolding dealt_tape
  trailer_at k = rw body_long at (get_or-append-add (dealt_body seed n side) (trailer n pair side number) k 0)

  pub body_at : (kind at : ℕ) → kind < 4 → at < kind_length n kind
      → get_or (dealt_tape seed n pair side number) (kind_start n kind + at) 0 ≡ kind_word n side kind (before_kind seed n kind) at
  unfolding dealt_tape
  body_at = first_at seed n side 4 (trailer n pair side number)

  -- a section's words
  pub letter : (kind g j i : ℕ) → Holds n kind g j i
      → get_or (section n (section_of kind) (dealt_tape seed n pair side number)) i 0 ≡ group_word n side kind (before_group seed n kind g) j
  letter kind g j i h =
      let at = g * group_length n kind + j in
      let inside : at < kind_length n kind = row_place (groups_of n kind) (group_length n kind) g j h.group h.word in
      let place : section_start n (section_of kind) + i ≡ kind_start n kind + at = omega (arith, h.there, stands n kind h.few) in
      section_at n (section_of kind) tape i (omega (arith, h.there, inside, stands n kind h.few))
      ∙ ap (λ (k : ℕ). get_or tape k 0) place
      ∙ body_at kind at h.few inside
      ∙ group_at n side kind (before_kind seed n kind) g j h.word

  -- the body, then the trailer, are the whole tape
  pub written : (old body l : List ℕ) → length old ≡ tape_length n → body ≡ sets old 0 (dealt_body seed n side)
      → l ≡ sets body (body_length n) (trailer n pair side number) → l ≡ dealt_tape seed n pair side number
  unfolding dealt_tape
  written old body l long first then =
      let all = dealt_body seed n side in
      then
      ∙ ap (λ (t : List ℕ). sets t (body_length n) (trailer n pair side number)) first
      ∙ ap (λ (k : ℕ). sets (sets old 0 all) k (trailer n pair side number)) (sym body_long)
      ∙ whole old all (trailer n pair side number) (omega (arith, body_long, long))
