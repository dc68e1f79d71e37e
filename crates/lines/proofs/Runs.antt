-- Text put after text.
use Rattle.std.proofs.Common.{◌≡◌, ℕ, ◌+◌, ◌≤◌, List, ◌++◌, length, take, drop, refl, sym, ap, ap₂, ◌∙◌, length-append, append_assoc, arith}
use borrow.Rule.Slice.PartMut.{put_mid}
use lib.Seq.{sets, sets-eq, take_at, drop-drop}
use Rattle.lists.proofs.Sets.{sets_append, sets_front}
use Rattle.lines.specs.declared.writing.Page.{Page}
use Rattle.lines.specs.Pages.{Puts}

-- a run at the place after a run is one run
sets_then : (out : List ℕ) (at : ℕ) (a b : List ℕ) → sets (sets out at a) (at + length a) b ≡ sets out at (a ++ b)
sets_then out at a b = sym (sets_append out at a b)

-- a run at the front is read back
sets_read : (out ws : List ℕ) → length ws ≤ length out → take (length ws) (sets out 0 ws) ≡ ws
sets_read out ws room = ap (take (length ws)) (sets_front out ws room) ∙ take_at ws (drop (length ws) out) (length ws) refl

module _ {p q r : Page} {a b : List ℕ} (first : Puts p q a) where
  pub then : Puts q r b → Puts p r (a ++ b)
  then second =
      record {
        out =
            second.out
            ∙ ap₂ (λ (t : List ℕ) (m : ℕ). sets t m b) first.out first.len
            ∙ sets_then p.out.now p.len a b;
        len = omega (arith, second.len, first.len, length-append a b);
        whole = second.whole ∙ first.whole;
        same = second.same ∙ first.same;
      }

-- what was put on a blank page is read back
pub read_back : {p q : Page} (text : List ℕ) → Puts p q text → p.len ≡ 0 → length text ≤ length p.out.now → take q.len q.out.now ≡ text
read_back {p} {q} text put blank room =
    let long : q.len ≡ length text = omega (arith, put.len) in
    let run : q.out.now ≡ sets p.out.now 0 text = put.out ∙ ap (λ (m : ℕ). sets p.out.now m text) blank in
    ap₂ (λ (k : ℕ) (t : List ℕ). take k t) long run ∙ sets_read p.out.now text room

-- what a copy into a part leaves
pub part_sets : (out bytes : List ℕ) (at k : ℕ) → k ≡ length bytes → at + length bytes ≤ length out → put_mid at k out bytes ≡ sets out at bytes
part_sets out bytes at k long room =
    let whole = sets-eq bytes out at room in
    rw (long, whole, sym (drop-drop (length bytes) at out)) (sym (append_assoc (take at out) bytes (drop (length bytes) (drop at out))))
