-- Lists that hold the factors of a round's products: what is opened from them, and what is closed, is the round's.
use Rattle.std.proofs.Common.{ℕ, ◌≡◌, ◌+◌, ◌*◌, ◌/◌, ◌%◌, ◌<◌, true, List, refl, get_or, take, get_or-take, mul-one, mod-eq_of_lt, arith}
use Rattle.lists.specs.Tabulate.{tabulate}
use Rattle.lists.proofs.Tabulate.{get_d_tabulate, tabulate_same}
use Rattle.field.specs.Width.{listed, modulus}
use Rattle.shares.specs.Share.{masked}
use Rattle.tape.specs.Letters.{triple_left, triple_right}
use Rattle.tape.specs.Layout.{group_count}
use Rattle.tape.specs.Order.{Readable}
use Rattle.tape.proofs.Letters.{group_inverse_below}
use Rattle.protocol.specs.Work.{sum_slot, wrap_slot, held}
use Rattle.protocol.specs.Products.{Party, Products, triples_of, open_left, open_right, alternating, openings, closed, closing}
use Rattle.protocol.specs.Rounds.{powers_of, level_products, wrap_products}
use Rattle.protocol.proofs.Reading.{held_below}

-- the left factors side by side, the right ones at a distance
pub record Factors (b : Party) (ps : Products) (lefts rights : List ℕ) (stride : ℕ) : Type 0 where
  pub left : (i : ℕ) → i < ps.count → get_or lefts i 0 % modulus b.n ≡ ps.left i
  pub right : (i : ℕ) → i < ps.count → get_or rights (i * stride) 0 % modulus b.n ≡ ps.right i

-- ---- what the steps make of such lists

-- the words that open the products, by the triples from a first one on
abbrev pub opens_with : ℕ → List ℕ → List ℕ → ℕ → List ℕ → ℕ → ℕ → List ℕ
opens_with n lefts rights stride triples first count =
    tabulate (count * 2)
    (alternating
    (λ i. masked n (get_or lefts i 0 % modulus n) (triple_left triples (first + i)))
    (λ i. masked n (get_or rights (i * stride) 0 % modulus n) (triple_right triples (first + i))))

-- and their shares, from the other box's words
abbrev pub closes_with : ℕ → ℕ → List ℕ → List ℕ → ℕ → List ℕ → ℕ → ℕ → List ℕ → ℕ → List ℕ
closes_with n side lefts rights stride triples first count incoming from =
    tabulate count
    (λ i.
    closed n side (get_or lefts i 0 % modulus n) (get_or rights (i * stride) 0 % modulus n) triples (first + i) incoming (from + i * 2))

module _ {b : Party} {ps : Products} {lefts rights : List ℕ} {stride : ℕ} (f : Factors b ps lefts rights stride) where
  pub opens_products : opens_with b.n lefts rights stride (triples_of b) ps.first ps.count ≡ openings b ps
  unfolding openings open_left open_right
  opens_products =
      tabulate_same (ps.count * 2)
      (alternating
      (λ i. masked b.n (get_or lefts i 0 % modulus b.n) (triple_left (triples_of b) (ps.first + i)))
      (λ i. masked b.n (get_or rights (i * stride) 0 % modulus b.n) (triple_right (triples_of b) (ps.first + i))))
      (alternating (open_left b ps) (open_right b ps))
      (λ j less. rw (f.left (j / 2) (omega arith), f.right (j / 2) (omega arith)))

  pub closes_products : (incoming : List ℕ) (from : ℕ)
      → closes_with b.n b.side lefts rights stride (triples_of b) ps.first ps.count incoming from
      ≡ tabulate ps.count (closing b ps incoming from)
  unfolding closing
  closes_products incoming from =
      tabulate_same ps.count
      (λ i.
      closed b.n b.side (get_or lefts i 0 % modulus b.n) (get_or rights (i * stride) 0 % modulus b.n) (triples_of b) (ps.first + i) incoming (from + i * 2))
      (closing b ps incoming from)
      (λ i less. rw (f.left i less, f.right i less))

-- ---- the rounds' factors

-- read from lists of words below p
listed_factors : (b : Party) (ps : Products) → ((i : ℕ) → ps.left i < modulus b.n) → ((i : ℕ) → ps.right i < modulus b.n)
    → Factors b ps (tabulate ps.count ps.left) (tabulate ps.count ps.right) 1
listed_factors b ps left right =
    record {
      left = λ i inside. rw (get_d_tabulate ps.count ps.left i 0 inside) (mod-eq_of_lt (left i));
      right = λ i inside. rw (mul-one, get_d_tabulate ps.count ps.right i 0 inside) (mod-eq_of_lt (right i));
    }

pub wrap_factors : (b : Party) → listed b.n ≡ true → (work : List ℕ)
    → Factors b (wrap_products b work) (tabulate 3 (λ t. held b.n work (sum_slot b.n t))) (tabulate 3 (λ t. held b.n work (wrap_slot b.n t))) 1
unfolding wrap_products
wrap_factors b width work =
    listed_factors b (wrap_products b work) (λ t. held_below b.n work (sum_slot b.n t) width) (λ t. held_below b.n work (wrap_slot b.n t) width)

-- read from the front of work and from the tape as they are
pub level_factors : (b : Party) (work : List ℕ) → Readable b.n b.tape
    → Factors b (level_products b work) (take (group_count b.n) work) (powers_of b) (b.n + 1)
unfolding level_products held
level_factors b work r =
    record {
      left = λ i inside. rw (get_or-take (group_count b.n) work i 0 inside) refl;
      right = λ i inside. mod-eq_of_lt (group_inverse_below r i inside);
    }
