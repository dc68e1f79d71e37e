-- A line's parts are those that std's split gives, taken one after another.
use Rattle.std.proofs.Common.{◌≡◌, ℕ, ◌<◌, Bool, true, false, cond, eqb, List, [], ◌∷◌, ◌++◌, length, get_or, refl, ap, ◌∙◌, sym, subst, arith}
use Rattle.std.specs.Bool.{MatchBool}
use Rattle.std.specs.List.{slice_split, onto_first, All, IsFirstMatchOrLen}
use Rattle.std.proofs.lemmas.Grind.{common_steps}
use Rattle.std.proofs.lemmas.List.Splits.{slice_split_none, slice_split_at, length-slice_split}
use Rattle.lines.specs.Reading.{onto, parts_of}

abbrev pub is_space : ℕ → Bool
is_space b = eqb b 32

onto_same : (b : ℕ) (ps : List (List ℕ)) → 0 < length ps → onto b ps ≡ onto_first b ps
onto_same b [] some = absurd (omega arith)
onto_same b (p ∷ ps) some = refl

parts_split : (s : List ℕ) → parts_of s ≡ slice_split is_space s
unfolding parts_of
parts_split [] = refl
parts_split (b ∷ s) =
    let some : 0 < length (slice_split is_space s) = omega (arith, length-slice_split is_space s) in
    rw (parts_split s) (ap (cond (eqb b 32) ([] ∷ slice_split is_space s)) (onto_same b (slice_split is_space s) some))

-- a call of split's next: its part comes first, and what is left after it gives the others
pub parts_next : (s part rest : List ℕ) (done : Bool) → MatchBool done (s ≡ part) ((y : ℕ) × (s ≡ part ++ (y ∷ rest))) → IsFirstMatchOrLen is_space s (length part)
    → parts_of s ≡ part ∷ cond done [] (parts_of rest)
parts_next s part rest true e h =
    parts_split s
    ∙ ap (slice_split is_space) e
    ∙ slice_split_none is_space part (λ k d l. subst (λ ys. is_space (get_or ys k d) ≡ false) e (h.0 k d (omega arith) l))
parts_next s part rest false e h =
    let front : All (λ z. is_space z ≡ false) part = λ k d l. let a = h.0 k d (omega arith) l in let b = e.1 in grind (arith, common_steps) in
    let hit : is_space e.0 ≡ true = let b = e.1 in let a = h.1 (grind (arith, common_steps)) e.0 in grind (arith, common_steps) in
    parts_split s
    ∙ ap (slice_split is_space) e.1
    ∙ slice_split_at is_space part e.0 rest front hit
    ∙ ap (λ (ps : List (List ℕ)). part ∷ ps) (sym (parts_split rest))
