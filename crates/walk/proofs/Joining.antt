-- Tapes written one after the other, each into its part.
use Prim.Native.Nat.{ℕ, ◌+◌, ◌-◌, ◌*◌, ◌≤◌}
use mathlib.Core.Path.{◌≡◌, refl, sym, ap, ap₂, ◌∙◌}
use mathlib.Core.List.{List}
use native.Mathlib.Nat.{mul_comm}
use native.Mathlib.Numerals.{add-one}
use native.Mathlib.Omega.{arith}
use borrow.Rule.Slice.PartMut.{mid_of, put_mid}
use lib.ListN.{length, drop}
use lib.Seq.{sets, length-sets}
use Rattle.std.proofs.lemmas.List.{length-take-le, length-drop}
use Rattle.lists.specs.Joined.{chained}
use Rattle.lists.proofs.Joined.{length_chained, sets_chained}
use Rattle.lists.proofs.Parts.{put_whole}
use Rattle.lists.proofs.Sets.{sets_whole}
use Rattle.tape.specs.Plain.{plain_tape}
use Rattle.deals.specs.Deals.{dealt_tape}
use Rattle.walk.specs.Walk.{box_tape}
use Rattle.walk.specs.Three.{dealt_at}

pub plain_long : (side number : ℕ) → length (box_tape side number) ≡ 149
unfolding plain_tape
plain_long side number = refl

pub dealt_long : (side i : ℕ) → length (dealt_at side i) ≡ 149
unfolding dealt_tape
dealt_long side i = refl

-- the part that is lent has a tape's length
lent_long : (l : List ℕ) (i : ℕ) → 149 * i + 149 ≤ length l → length (mid_of (149 * i) (149 * i + 149 - 149 * i) l) ≡ 149
lent_long l i room =
    let size : 149 * i + 149 - 149 * i ≡ 149 = omega arith in
    rw size (length-take-le 149 (drop (149 * i) l) (omega (arith, length-drop (149 * i) l)))

module _ (f : ℕ → List ℕ) (long : (i : ℕ) → length (f i) ≡ 149) (out : List ℕ) where
  -- a turn
  pub next_tape : (l new : List ℕ) (k : ℕ) → 149 * k + 149 ≤ length out → l ≡ sets out 0 (chained k f) → new ≡ f k
      → put_mid (149 * k) (149 * k + 149 - 149 * k) l new ≡ sets out 0 (chained (k + 1) f)
  next_tape l new k room before this =
      let same : length l ≡ length out = ap length before ∙ length-sets out 0 (chained k f) in
      let size : length new ≡ 149 = ap length this ∙ long k in
      put_whole (149 * k) (149 * k + 149 - 149 * k) l new (size ∙ sym (lent_long l k (omega arith))) (omega arith)
      ∙ ap₂ (λ (m w : List ℕ). sets m (149 * k) w) before this
      ∙ ap (λ (at : ℕ). sets (sets out 0 (chained k f)) at (f k)) (mul_comm 149 k)
      ∙ sets_chained out k 149 f (λ i _. long i)
      ∙ ap (λ (m : ℕ). sets out 0 (chained m f)) (sym (add-one k))

  -- all of them
  pub all_tapes : (n : ℕ) → length out ≡ 149 * n → sets out 0 (chained n f) ≡ chained n f
  all_tapes n full = sets_whole out (chained n f) (omega (arith, length_chained n 149 f (λ i _. long i)))
