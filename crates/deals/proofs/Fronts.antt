-- A list whose front was written part by part.
use Prim.Native.Nat.{ℕ, ◌+◌, ◌-◌, ◌≤◌}
use mathlib.Core.Path.{◌≡◌, refl, sym, ap, ap₂, ◌∙◌}
use mathlib.Core.List.{List, [], ◌++◌, append_assoc, append-nil}
use native.Mathlib.Nat.{add-sub_cancel_left}
use native.Mathlib.Omega.{arith}
use borrow.Rule.Slice.PartMut.{put_mid}
use lib.ListN.{length, take, drop, length-append, length-drop, drop_of_length-le}
use lib.Seq.{length-take-le, take_at, drop_at, drop-drop}

-- the words of the front, then the rest as it was
pub record Front (front old l : List ℕ) : Type 0 where
  pub within : length front ≤ length old
  pub same : l ≡ front ++ drop (length front) old

pub front_none : {l : List ℕ} → Front [] l l
front_none = record { within = omega arith; same = refl }

module _ {front old l : List ℕ} (h : Front front old l) where
  pub front_long : length l ≡ length old
  front_long =
      ap length h.same
      ∙ length-append front (drop (length front) old)
      ∙ omega (arith, length-drop (length front) old, h.within)

  pub front_fits : (end : ℕ) → end ≤ length old → end ≤ length l
  front_fits end room = omega (arith, front_long, room)

  -- the part that is lent to be written
  pub part_long : (at count : ℕ) → at + count ≤ length old → length (take (at + count - at) (drop at l)) ≡ count
  part_long at count room =
      length-take-le (at + count - at) (drop at l) (omega (arith, length-drop at l, front_long, room))
      ∙ add-sub_cancel_left at count

  -- one part more
  pub front_more : (at count : ℕ) (part longer : List ℕ) → length front ≡ at → length part ≡ count → at + count ≤ length old
      → longer ≡ front ++ part → Front longer old (put_mid at (at + count - at) l part)
  front_more at count part longer there size room e =
      let before : take at l ≡ front = ap (take at) h.same ∙ take_at front (drop (length front) old) at there in
      let after : drop (at + count - at) (drop at l) ≡ drop (at + count) old =
      ap₂ drop (add-sub_cancel_left at count)
      (ap (drop at) h.same ∙ drop_at front (drop (length front) old) at there ∙ ap (λ (j : ℕ). drop j old) there)
      ∙ drop-drop count at old in
      let long : length longer ≡ at + count = ap length e ∙ length-append front part ∙ ap₂ (λ (i j : ℕ). i + j) there size in
      record {
        within = omega (arith, long, room);
        same =
            ap₂ (λ (first rest : List ℕ). first ++ (part ++ rest)) before after
            ∙ sym (append_assoc front part (drop (at + count) old))
            ∙ ap₂ (λ (first : List ℕ) (j : ℕ). first ++ drop j old) (sym e) (sym long);
      }

  -- the whole list
  pub front_all : length old ≤ length front → l ≡ front
  front_all end =
      h.same
      ∙ ap (λ (rest : List ℕ). front ++ rest) (drop_of_length-le old {i = length front} end)
      ∙ append-nil front
