-- With tapes dealt by the rules, the two boxes' shares of an opened square or product add up to the square or the product.
use Prim.Native.Nat.{ℕ, ◌+◌, ◌*◌, ◌<◌}
use mathlib.Core.Path.{◌≡◌, ap, ◌∙◌}
use mathlib.Core.List.{List, ◌++◌}
use native.Mathlib.Omega.{arith}
use lib.ListN.{length, get_or}
use lib.Seq.{get_or-append-add}
use Rattle.lists.proofs.Tabulate.{get_d_tabulate}
use Rattle.field.specs.Width.{modulus}
use Rattle.field.specs.Congruence.{Cong}
use Rattle.shares.specs.Side.{other}
use Rattle.shares.specs.Share.{masked}
use Rattle.shares.proofs.Products.{opened_both, square_total, product_total}
use Rattle.tape.specs.Layout.{section, square_count, triple_count}
use Rattle.tape.specs.Letters.{triple_left, triple_right}
use Rattle.tape.specs.Dealt.{Matched}
use Rattle.tape.proofs.Dealing.{own_side, dealt_square, dealt_triple}
use Rattle.protocol.specs.Products.{Party, Products, triples_of, open_left, open_right, openings, alternating, closed}
use Rattle.protocol.specs.Squares.{square_opening, square_closing}
use Rattle.protocol.proofs.Openings.{alternating_even, alternating_odd}

-- the two words that open a product of v and u by triple i stand at a place of incoming
pub record Heard (n v u : ℕ) (triples : List ℕ) (i : ℕ) (incoming : List ℕ) (at : ℕ) : Type 0 where
  pub left : get_or incoming at 0 ≡ masked n v (triple_left triples i)
  pub right : get_or incoming (at + 1) 0 ≡ masked n u (triple_right triples i)

-- what one box sends of its products, the other hears
pub openings_heard : (b : Party) (ps : Products) (i : ℕ) → i < ps.count
    → Heard b.n (ps.left i) (ps.right i) (triples_of b) (ps.first + i) (openings b ps) (0 + i * 2)
unfolding openings open_left open_right
openings_heard b ps i l =
    let word : (j : ℕ) → j < ps.count * 2 → get_or (openings b ps) j 0 ≡ alternating (open_left b ps) (open_right b ps) j =
    λ j less. get_d_tabulate (ps.count * 2) (alternating (open_left b ps) (open_right b ps)) j 0 less in
    let start : 0 + i * 2 ≡ i * 2 = omega arith in
    rw start
    record {
      left = word (i * 2) (omega arith) ∙ alternating_even (open_left b ps) (open_right b ps) i;
      right = word (i * 2 + 1) (omega arith) ∙ alternating_odd (open_left b ps) (open_right b ps) i;
    }

-- the same behind other words
pub heard_after_lem : {n v u : ℕ} {triples : List ℕ} {i : ℕ} {incoming : List ℕ} (words : List ℕ) (at start : ℕ)
    → length words ≡ start → Heard n v u triples i incoming (0 + at) → Heard n v u triples i (words ++ incoming) (start + at)
heard_after_lem {incoming = incoming} words at start e h =
    let first : start + at ≡ length words + (0 + at) = omega arith in
    let second : start + at + 1 ≡ length words + (0 + at + 1) = omega arith in
    record {
      left = ap (λ (k : ℕ). get_or (words ++ incoming) k 0) first ∙ get_or-append-add words incoming (0 + at) 0 ∙ h.left;
      right = ap (λ (k : ℕ). get_or (words ++ incoming) k 0) second ∙ get_or-append-add words incoming (0 + at + 1) 0 ∙ h.right;
    }

module _ {n pair number side : ℕ} {t1 t2 : List ℕ} (m : Matched n pair number side t1 t2) where
  pub closed_total : (i : ℕ) → i < triple_count n → (v1 u1 v2 u2 : ℕ) (incoming1 incoming2 : List ℕ) (at : ℕ)
      → Heard n v2 u2 (section n 2 t2) i incoming1 at
      → Heard n v1 u1 (section n 2 t1) i incoming2 at
      → Cong (modulus n)
      (closed n side v1 u1 (section n 2 t1) i incoming1 at + closed n (other side) v2 u2 (section n 2 t2) i incoming2 at)
      ((v1 + v2) * (u1 + u2))
  unfolding closed
  closed_total i l v1 u1 v2 u2 incoming1 incoming2 at h1 h2 =
      rw (
        h1.left,
        h1.right,
        h2.left,
        h2.right,
        opened_both n (masked n v2 (triple_left (section n 2 t2) i)) (masked n v1 (triple_left (section n 2 t1) i)),
        opened_both n (masked n u2 (triple_right (section n 2 t2) i)) (masked n u1 (triple_right (section n 2 t1) i)),
      )
      (product_total side (own_side m) (dealt_triple m i l) v1 v2 u1 u2)

  pub square_closed_total : (j : ℕ) → j < square_count n → (v1 v2 : ℕ) (incoming1 incoming2 : List ℕ)
      → get_or incoming1 j 0 ≡ square_opening n v2 (section n 0 t2) j
      → get_or incoming2 j 0 ≡ square_opening n v1 (section n 0 t1) j
      → Cong (modulus n)
      (square_closing n side v1 (section n 0 t1) incoming1 j + square_closing n (other side) v2 (section n 0 t2) incoming2 j)
      ((v1 + v2) * (v1 + v2))
  unfolding square_closing
  square_closed_total j l v1 v2 incoming1 incoming2 h1 h2 =
      rw (h1, h2, opened_both n (square_opening n v2 (section n 0 t2) j) (square_opening n v1 (section n 0 t1) j))
      (square_total side (own_side m) (dealt_square m j l) v1 v2)
