-- A tally of eight tapes of which the first so many are spent: the next is fresh and not late.
use Prim.Native.Nat.{ℕ, zero, suc, ◌+◌, ◌<◌, ◌≤◌}
use mathlib.Core.Path.{◌≡◌, refl, ap, ◌∙◌}
use mathlib.Core.Bool.{true, false}
use mathlib.Core.List.{List}
use mathlib.Core.Logic.{inr}
use native.Mathlib.Omega.{arith}
use lib.ListN.{length, replicate, get_or}
use Rattle.std.proofs.lemmas.List.{get_or-replicate}
use Rattle.tally.specs.Tally.{tally_fits, tapes_of, mark_at, is_fresh, late, marked, first_marks}
use Rattle.tally.proofs.Late.{not_late}
use Rattle.tally.proofs.Starts.{first_length, first_others, first_in_time}
use Rattle.bench.specs.Eight.{marks}

abbrev eight : List ℕ
eight = replicate 32 255

byte : (k i : ℕ) → k < 8 → i < 4 → get_or eight (mark_at k + i) 0 ≡ 255
byte k i less low = get_or-replicate {A = ℕ} 32 (mark_at k + i) 255 0 (omega (arith, less, low))

fresh_eight : (k : ℕ) → k < 8 → is_fresh eight k ≡ true
unfolding is_fresh
fresh_eight k less =
    rw (byte k 0 less (omega arith), byte k 1 less (omega arith), byte k 2 less (omega arith), byte k 3 less (omega arith)) refl

tapes_eight : tapes_of (length eight) ≡ 8
unfolding tapes_of
tapes_eight = refl

pub marks_long : (count : ℕ) → length (marks count) ≡ 32
marks_long count = first_length eight 0 count

pub marks_tapes : (count : ℕ) → tapes_of (length (marks count)) ≡ 8
unfolding tapes_of
marks_tapes count = rw (marks_long count) refl

pub marks_fit : (count : ℕ) → tally_fits (length (marks count)) ≡ true
unfolding tally_fits
marks_fit count = rw (marks_long count) refl

pub marks_fresh : (count number : ℕ) → count ≤ number → number < 8 → is_fresh (marks count) number ≡ true
marks_fresh count number past less = first_others eight 0 count number (inr (omega (arith, past))) ∙ fresh_eight number less

pub marks_in_time : (count number : ℕ) → count ≤ number → late (marks count) number ≡ false
marks_in_time count number past =
    first_in_time eight 0 count number (omega (arith, past))
    (not_late eight number (λ k above within. fresh_eight k (rw tapes_eight at within)))

-- a start of the next ones leaves as many more spent
pub marks_more : (first count : ℕ) → first_marks (marks first) first count ≡ marks (first + count)
marks_more first zero = let none : first ≡ first + 0 = omega arith in ap marks none
marks_more first (suc k) =
    let at : first + k ≡ 0 + (first + k) = omega arith in
    let next : suc (first + k) ≡ first + suc k = omega arith in
    ap (λ (tally : List ℕ). marked tally (first + k)) (marks_more first k) ∙ ap (marked (marks (first + k))) at ∙ ap marks next
