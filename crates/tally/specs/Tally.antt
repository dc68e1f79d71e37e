-- The tally (document 01, "The tally and the calls"), with marks of four bytes (document 02, P6): bytes 4j to 4j + 3 are the mark of tape number j.
use Rattle.std.specs.Prelude.{ℕ, zero, suc, ◌+◌, ◌*◌, ◌/◌, ◌%◌, Bool, ◌&&◌, ◌||◌, not, cond, List, [], ◌∷◌, eqb, leb, length, get_or}
use Rattle.std.proofs.lemmas.List.Edits.{sets}
use Rattle.lists.specs.Every.{every}
use Rattle.lists.specs.Tabulate.{sum}

-- a mark: the group of bytes that the memory writes in one write
pub record Mark : Type 0 where
  pub first : ℕ
  pub second : ℕ
  pub third : ℕ
  pub fourth : ℕ

abbrev pub mark_bytes : ℕ
mark_bytes = 4

-- the longest tally, 2,920 marks (document 02, P2 and P6)
abbrev pub longest_tally : ℕ
longest_tally = 11680

-- a tally's length is in the paper's range: 4 to 11,680 bytes, and a multiple of 4
unfoldable pub tally_fits : ℕ → Bool
tally_fits len = leb mark_bytes len && leb len longest_tally && eqb (len % mark_bytes) 0

-- how many tapes a tally of that length has marks for
unfoldable pub tapes_of : ℕ → ℕ
tapes_of len = len / mark_bytes

-- the place of a tape's first byte
abbrev pub mark_at : ℕ → ℕ
mark_at number = mark_bytes * number

-- a tape's mark
abbrev pub mark_of : List ℕ → ℕ → Mark
mark_of tally number =
    let byte : ℕ → ℕ = λ i. get_or tally (mark_at number + i) 0 in
    record { first = byte 0; second = byte 1; third = byte 2; fourth = byte 3 }

-- a write of a tape's mark: those four bytes in its group, no change elsewhere
abbrev pub with_mark : List ℕ → ℕ → Mark → List ℕ
with_mark tally number m = sets tally (mark_at number) (m.first ∷ m.second ∷ m.third ∷ m.fourth ∷ [])

-- fresh when all four bytes are FF hexadecimal; any other mark is spent
abbrev pub all_ff : Mark → Bool
all_ff m = eqb m.first 255 && eqb m.second 255 && eqb m.third 255 && eqb m.fourth 255

unfoldable pub is_fresh : List ℕ → ℕ → Bool
is_fresh tally number = all_ff (mark_of tally number)

-- late (document 02, P4), below the highest spent number: not every tape above it is fresh, and a half-written mark is not
unfoldable pub late : List ℕ → ℕ → Bool
late tally number = not (every (tapes_of (length tally)) (λ k. leb k number || is_fresh tally k))

-- what a start's mark leaves: four bytes 00
unfoldable pub marked : List ℕ → ℕ → List ℕ
marked tally number = with_mark tally number (record { first = 0; second = 0; third = 0; fourth = 0 })

-- what a cut in that write leaves: any four values in that group
unfoldable pub cut_marked : List ℕ → ℕ → Mark → List ℕ
cut_marked tally number left = with_mark tally number left

-- what the first so many marks of a start leave (document 02, P9): they are written one group at a time, the lowest number first
abbrev pub first_marks : List ℕ → ℕ → ℕ → List ℕ
first_marks tally first zero = tally
first_marks tally first (suc k) = marked (first_marks tally first k) (first + k)

-- what a cut in the next of them leaves: any four values in its group, the groups before it as they were written
abbrev pub cut_marks : List ℕ → ℕ → ℕ → Mark → List ℕ
cut_marks tally first k left = cut_marked (first_marks tally first k) (first + k) left

unfoldable pub fresh_count : List ℕ → ℕ
fresh_count tally = sum (tapes_of (length tally)) (λ j. cond (is_fresh tally j) 1 0)
