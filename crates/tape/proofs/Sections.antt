-- The sections of a tape, for every section at once: they fill the body, the trailer's distances lead back to them, and their words are the tape's.
use Prim.Native.Nat.{ℕ, zero, suc, ◌+◌, ◌<◌, ◌≤◌}
use mathlib.Core.Path.{◌≡◌, refl}
use mathlib.Core.List.{List, [], ◌∷◌}
use native.Mathlib.Omega.{arith}
use lib.ListN.{length, get_or, drop, length-drop}
use lib.Seq.{length-take-le, get_or-take, get_or-drop}
use Rattle.field.specs.Width.{modulus}
use Rattle.tape.specs.Layout.{section_length, section_start, section, body_length, trailer}
use Rattle.tape.specs.Order.{Readable}
use Rattle.tape.specs.Sections.{place}
use Rattle.tape.specs.declared.Section.{Section}
use Rattle.tape.specs.declared.Section.TheVariants.{Squares, Powers, Triples}

pub place_below : (s : Section) → place s < 3
place_below Squares = omega arith
place_below Powers = omega arith
place_below Triples = omega arith

-- in the order in which they stand
pub placed : (k : ℕ) (other : Section) → k < 3 → place (get_or (Squares ∷ Powers ∷ Triples ∷ []) k other) ≡ k
placed zero other l = refl
placed (suc zero) other l = refl
placed (suc (suc zero)) other l = refl
placed (suc (suc (suc k))) other l = absurd (omega arith)

-- the three sections are the body
pub body_whole : (n : ℕ) → section_start n 3 ≡ body_length n
body_whole n = omega arith

pub section_within : (n which : ℕ) → which < 3 → section_start n which + section_length n which ≤ body_length n
section_within n zero l = omega arith
section_within n (suc zero) l = omega arith
section_within n (suc (suc zero)) l = omega arith
section_within n (suc (suc (suc k))) l = omega arith

-- from the body's end, the trailer's distance leads back to the section's start
pub section_back : (n which : ℕ) → which < 3 → section_start n which + get_or (trailer n 0 0 0) which 0 ≡ body_length n
section_back n zero l = omega arith
section_back n (suc zero) l = omega arith
section_back n (suc (suc zero)) l = omega arith
section_back n (suc (suc (suc k))) l = omega arith

pub section_at : (n which : ℕ) (tape : List ℕ) (i : ℕ) → i < section_length n which
    → get_or (section n which tape) i 0 ≡ get_or tape (section_start n which + i) 0
unfolding section
section_at n which tape i l = rw (get_or-take, get_or-drop)

module _ {n : ℕ} {tape : List ℕ} (r : Readable n tape) (which : ℕ) (l : which < 3) where
  pub section_length_lem : length (section n which tape) ≡ section_length n which
  unfolding section
  section_length_lem =
      length-take-le (section_length n which) (drop (section_start n which) tape)
      (simp length-drop (omega (arith, section_within n which l, r.long)))

  pub section_below : (i : ℕ) → i < section_length n which → get_or (section n which tape) i 0 < modulus n
  section_below i inside =
      rw (section_at n which tape i inside) (r.below (section_start n which + i) (omega (arith, section_within n which l)))
