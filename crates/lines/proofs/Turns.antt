-- A line's parts read one after another, each into its place.
use Rattle.std.proofs.Common.{◌≡◌, ℕ, suc, ◌+◌, ◌<◌, true, false, ◌&&◌, eqb, List, ◌∷◌, ◌++◌, map, length, set, take, refl, sym, ap, ◌∙◌, add-zero, add-one, arith}
use borrow.Author.Tests.{ne_eqb}
use lib.Seq.{take-suc-set, append_snoc}
use Rattle.lists.proofs.Tests.{and-false}
use Rattle.lines.specs.Reading.{parts_of, value_of, is_number, all_numbers, is_numbers, numbers_of}

-- k parts are read, and the parts that are left decide
pub record Read (line : List ℕ) (count : ℕ) (left : List (List ℕ)) (numbers : List ℕ) (k : ℕ) : Type 0 where
  pub some : is_numbers count line ≡ (eqb (length left + k) count && all_numbers left)
  pub values : numbers_of line ≡ take k numbers ++ map value_of left

pub begin : (line part : List ℕ) (count : ℕ) (numbers : List ℕ) → part ≡ line → Read line count (parts_of part) numbers 0
unfolding is_numbers numbers_of
begin line part count numbers same = rw same record { some = rw (add-zero (length (parts_of line))) refl; values = refl }

module _ (line : List ℕ) (count : ℕ) (part : List ℕ) (left : List (List ℕ)) (numbers : List ℕ) (k : ℕ) (was : Read line count (part ∷ left) numbers k) where
  -- a part that is a number goes to its place
  pub turn : is_number part ≡ true → k < length numbers → Read line count left (set numbers k (value_of part)) (k + 1)
  turn fits room =
      let long : suc (length left) + k ≡ length left + (k + 1) = omega arith in
      record {
        some = was.some ∙ rw (fits, long) refl;
        values =
            was.values
            ∙ sym (append_snoc (take k numbers) (value_of part) (map value_of left))
            ∙ ap (λ (l : List ℕ). l ++ map value_of left) (sym (take-suc-set numbers k (value_of part) room) ∙ ap (λ (m : ℕ). take m (set numbers k (value_of part))) (sym (add-one k)));
      }

  pub no_number : is_number part ≡ false → is_numbers count line ≡ false
  no_number none = was.some ∙ and-false (eqb (suc (length left) + k) count) (rw none refl)

  pub too_many : count ≡ k → is_numbers count line ≡ false
  too_many all = was.some ∙ rw (ne_eqb (suc (length left) + k) count (λ e. omega arith)) refl
