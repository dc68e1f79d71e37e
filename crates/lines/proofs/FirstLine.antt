-- A text's first line is the first part that std's split gives.
use Rattle.std.proofs.Common.{◌≡◌, ℕ, ◌≤◌, Bool, true, false, cond, eqb, List, ◌∷◌, ◌++◌, length, take, refl, sym, ap, ◌∙◌, one-add, arith}
use Rattle.std.specs.Bool.{MatchBool}
use Rattle.std.specs.List.{position_or_len, IsFirstMatchOrLen}
use Rattle.std.proofs.Math.Seq.{take-append_seam, take_all}
use Rattle.std.proofs.lemmas.List.{length-append}
use Rattle.std.proofs.lemmas.List.Recursion.{is_position_or_len}
use Rattle.std.proofs.lemmas.List.Sums.{position_or_len_is}
use Rattle.lines.specs.Reading.{earliest_of, line_of}

abbrev pub is_newline : ℕ → Bool
is_newline b = eqb b 10

-- as std has it
first_place : (s : List ℕ) → earliest_of 10 s ≡ position_or_len is_newline s
unfolding earliest_of
first_place s = is_position_or_len (earliest_of 10) is_newline refl (λ x s. sym (ap (cond (is_newline x) 0) (one-add (earliest_of 10 s)))) s

-- what stands in front of the first newline
first_line : (s part : List ℕ) → length part ≤ length s → take (length part) s ≡ part → IsFirstMatchOrLen is_newline s (length part)
    → part ≡ line_of s
unfolding line_of
first_line s part long front h =
    let place = first_place s ∙ position_or_len_is is_newline s (length part) 0 long (λ k l. h.0 k 0 (omega arith) l) (λ l. h.1 l 0) in
    sym (ap (λ (i : ℕ). take i s) place ∙ front)

-- split's first part
pub line_next : (s part rest : List ℕ) (done : Bool) → MatchBool done (s ≡ part) ((y : ℕ) × (s ≡ part ++ (y ∷ rest)))
    → IsFirstMatchOrLen is_newline s (length part) → part ≡ line_of s
line_next s part rest true e = first_line s part (omega (arith, ap length e)) (ap (take (length part)) e ∙ take_all (length part) part (omega arith))
line_next s part rest false e =
    let long : length part ≤ length s = omega (arith, ap length e.1, length-append part (e.0 ∷ rest)) in
    first_line s part long (ap (take (length part)) e.1 ∙ take-append_seam part (e.0 ∷ rest))
