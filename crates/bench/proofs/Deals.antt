-- Eight pairs of tapes dealt one after another, and each of them by itself.
use Prim.Native.Nat.{ℕ, ◌+◌, ◌-◌, ◌*◌, ◌<◌, ◌≤◌}
use mathlib.Core.Path.{◌≡◌, refl, ap, sym, ◌∙◌}
use mathlib.Core.Bool.{true}
use mathlib.Core.List.{List}
use native.Mathlib.Numerals.{add-one}
use native.Mathlib.Nat.{zero-add, mul-le-mul_right}
use native.Mathlib.Omega.{arith}
use borrow.Rule.Slice.PartMut.{put_mid}
use lib.ListN.{length, take, drop}
use lib.Seq.{sets, length-sets}
use Rattle.std.proofs.lemmas.List.{drop-take, take-take, drop-drop}
use Rattle.lists.specs.Joined.{chained, part}
use Rattle.lists.proofs.Parts.{put_whole}
use Rattle.lists.proofs.Joined.{within, length_part, part_sets, sets_chained}
use Rattle.field.specs.Width.{listed}
use Rattle.tape.specs.Layout.{tape_length}
use Rattle.tape.specs.Dealt.{Dealt}
use Rattle.tape.proofs.Dealing.{own_readable, others_readable}
use Rattle.protocol.specs.Sizes.{tape_for}
use Rattle.deals.specs.Deals.{dealt_tape}
use Rattle.deals.proofs.Dealing.{dealt_tapes}
use Rattle.bench.specs.Eight.{AllDealt}

-- a part that is lent, and one that comes back written whole
size_is : (at size : ℕ) → at + size - at ≡ size
size_is at size = omega arith

pub lent_part : (size words : ℕ) (l : List ℕ) (i : ℕ) → words ≡ size → take (i * words + words - i * words) (drop (i * words) l) ≡ part size l i
lent_part size words l i same = rw same (ap (λ (k : ℕ). take k (drop (i * size) l)) (size_is (i * size) size))

put_part : (size : ℕ) (l new : List ℕ) (i : ℕ) → i * size + size ≤ length l → length new ≡ size
    → put_mid (i * size) (i * size + size - i * size) l new ≡ sets l (i * size) new
put_part size l new i room long =
    let k = i * size + size - i * size in
    put_whole (i * size) k l new (long ∙ sym (ap length (lent_part size size l i refl) ∙ length_part size l i room)) (omega (arith, size_is (i * size) size, long))

-- a box's tape number j
abbrev own_tape : ℕ → ℕ → ℕ → List ℕ
own_tape n side j = dealt_tape (2463534242 + j) n 1 side j

-- those dealt first, in a room of eight
abbrev pub dealt_in : ℕ → ℕ → List ℕ → ℕ → List ℕ
dealt_in n side room i = sets room 0 (chained i (own_tape n side))

module _ (n : ℕ) (width : listed n ≡ true) where
  pair : (j : ℕ) → Dealt n 1 j (own_tape n 1 j) (own_tape n 2 j)
  pair j = dealt_tapes (2463534242 + j) n 1 j width

  pub long1 : (j : ℕ) → length (own_tape n 1 j) ≡ tape_length n
  long1 j = (own_readable (pair j)).long

  pub long2 : (j : ℕ) → length (own_tape n 2 j) ≡ tape_length n
  long2 j = (others_readable (pair j)).long

  -- a turn of the loop: the next tape is written
  pub deal_next : (side : ℕ) → ((j : ℕ) → length (own_tape n side j) ≡ tape_length n) → (room tapes : List ℕ) (i : ℕ)
      → length room ≡ tape_for n 8 → i < 8 → tapes ≡ dealt_in n side room i
      → put_mid (i * tape_length n) (i * tape_length n + tape_length n - i * tape_length n) tapes (own_tape n side i) ≡ dealt_in n side room (i + 1)
  deal_next side long room tapes i fits less e =
      let size = tape_length n in
      let same : length tapes ≡ length room = ap length e ∙ length-sets room 0 (chained i (own_tape n side)) in
      put_part size tapes (own_tape n side i) i (omega (arith, same, fits, within 8 size i less)) (long i)
      ∙ ap (λ (l : List ℕ). sets l (i * size) (own_tape n side i)) e
      ∙ rw (add-one i) (sets_chained room i size (own_tape n side) (λ j l. long j))

  -- at its end
  pub all_dealt : (room1 room2 : List ℕ) → length room1 ≡ tape_for n 8 → length room2 ≡ tape_for n 8
      → AllDealt n 0 8 (dealt_in n 1 room1 8) (dealt_in n 2 room2 8)
  all_dealt room1 room2 fits1 fits2 =
      record {
        long1 = length-sets room1 0 (chained 8 (own_tape n 1)) ∙ fits1;
        long2 = length-sets room2 0 (chained 8 (own_tape n 2)) ∙ fits2;
        dealt = λ i less.
            rw (
              part_sets room1 8 (tape_length n) (own_tape n 1) i less (omega (arith, fits1)) (λ j l. long1 j),
              part_sets room2 8 (tape_length n) (own_tape n 2) i less (omega (arith, fits2)) (λ j l. long2 j),
              zero-add i,
            )
            (pair i);
      }

-- ---- those of one start by themselves

-- part j of a list that is part i
part_of_part : (size count : ℕ) (l : List ℕ) (i j : ℕ) → j < count → part size (part (count * size) l i) j ≡ part size l (i * count + j)
part_of_part size count l i j less =
    let rest = count * size - j * size in
    let from = i * (count * size) in
    let inside = within count size j less in
    ap (λ (k : ℕ). take size (drop (j * size) (take k (drop from l)))) (omega (arith, inside))
    ∙ ap (take size) (drop-take (j * size) rest (drop from l))
    ∙ take-take size rest (drop (j * size) (drop from l)) (omega (arith, inside))
    ∙ ap (take size) (drop-drop (j * size) from l ∙ ap (λ (k : ℕ). drop k l) (omega arith))

pub start_dealt : (n count : ℕ) (t1 t2 : List ℕ) → AllDealt n 0 8 t1 t2 → (i : ℕ) → i * count + count ≤ 8
    → AllDealt n (i * count) count (part (tape_for n count) t1 i) (part (tape_for n count) t2 i)
start_dealt n count t1 t2 d i room =
    let size = tape_length n in
    let inside : i * (count * size) + count * size ≤ 8 * size = omega (arith, mul-le-mul_right size room) in
    record {
      long1 = length_part (tape_for n count) t1 i (omega (arith, inside, d.long1));
      long2 = length_part (tape_for n count) t2 i (omega (arith, inside, d.long2));
      dealt = λ j less.
          rw (part_of_part size count t1 i j less, part_of_part size count t2 i j less)
          (rw (zero-add (i * count + j)) at (d.dealt (i * count + j) (omega (arith, room, less))));
    }
