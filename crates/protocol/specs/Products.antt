-- What one box has of a job, and the products that a round opens.
use Rattle.std.specs.Prelude.{ℕ, ◌+◌, ◌*◌, ◌/◌, ◌%◌, cond, List, eqb, get_or}
use Rattle.lists.specs.Tabulate.{tabulate}
use Rattle.shares.specs.Share.{masked, opened, product_share}
use Rattle.tape.specs.Layout.{section}
use Rattle.tape.specs.Letters.{triple_left, triple_right, triple_product}

-- a box in a job: its width, its side, its shares of x and y, its tape
pub record Party : Type 0 where
  pub n : ℕ
  pub side : ℕ
  pub x : ℕ
  pub y : ℕ
  pub tape : List ℕ

abbrev pub party : ℕ → ℕ → ℕ → ℕ → List ℕ → Party
party n side x y tape = record { n = n; side = side; x = x; y = y; tape = tape }

-- products opened side by side: the first one's Beaver triple, how many, and the box's shares of the factors
pub record Products : Type 0 where
  pub first : ℕ
  pub count : ℕ
  pub left : ℕ → ℕ
  pub right : ℕ → ℕ

-- The triple of a round's first product. The first 3n triples are round 2's; then come those of α · β and of S · T of each test.
abbrev pub low_triple : ℕ → ℕ
low_triple n = 3 * n

abbrev pub wrap_triple : ℕ → ℕ
wrap_triple n = 3 * n + 3

abbrev pub triples_of : Party → List ℕ
triples_of b = section b.n 2 b.tape

-- the two words that open product i: e, then f
unfoldable pub open_left : Party → Products → ℕ → ℕ
open_left b ps i = masked b.n (ps.left i) (triple_left (triples_of b) (ps.first + i))

unfoldable pub open_right : Party → Products → ℕ → ℕ
open_right b ps i = masked b.n (ps.right i) (triple_right (triples_of b) (ps.first + i))

-- e and f by turns
abbrev pub alternating : (ℕ → ℕ) → (ℕ → ℕ) → ℕ → ℕ
alternating e f j = cond (eqb (j % 2) 0) (e (j / 2)) (f (j / 2))

-- all words that open the products
unfoldable pub openings : Party → Products → List ℕ
openings b ps = tabulate (ps.count * 2) (alternating (open_left b ps) (open_right b ps))

-- the share of a product of v and u by triple i, the other box's e and f standing at a place of incoming
unfoldable pub closed : ℕ → ℕ → ℕ → ℕ → List ℕ → ℕ → List ℕ → ℕ → ℕ
closed n side v u triples i incoming at =
    product_share n side
    (opened n (masked n v (triple_left triples i)) (get_or incoming at 0))
    (opened n (masked n u (triple_right triples i)) (get_or incoming (at + 1) 0))
    (triple_left triples i)
    (triple_right triples i)
    (triple_product triples i)

-- the share of product i, the other box's words standing from a place of incoming
unfoldable pub closing : Party → Products → List ℕ → ℕ → ℕ → ℕ
closing b ps incoming from i =
    closed b.n b.side (ps.left i) (ps.right i) (triples_of b) (ps.first + i) incoming (from + i * 2)
