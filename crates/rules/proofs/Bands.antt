-- A band's two comparisons, c1 < a and a < c2, add up to its bit and 1 more, since c1 < c2. So the two answer shares of a band, of which box 1 takes off the 1,
-- add up to the bit modulo p.
use Prim.Native.Nat.{ℕ, ◌+◌, ◌%◌, ◌<◌}
use mathlib.Core.Path.{◌≡◌, refl, ◌∙◌}
use mathlib.Core.Bool.{Bool, true, false, ◌&&◌}
use mathlib.Core.List.{List}
use native.Mathlib.Nat.{mod-eq_of_lt}
use native.Mathlib.Omega.{arith}
use lib.Dec.{ltb}
use lib.ListN.{get_or}
use borrow.Author.Tests.{ltb-false}
use Rattle.field.specs.Width.{listed, modulus}
use Rattle.field.specs.Congruence.{Cong}
use Rattle.field.proofs.Widths.{bounds}
use Rattle.field.proofs.Congruences.{cong_eq, ◌⊙◌, cong_mod, cong_add, cong_cancel, cong_sym}
use Rattle.field.proofs.Subtraction.{minus_total}
use Rattle.shares.specs.Side.{is_side, other}
use Rattle.shares.specs.Share.{constant_share}
use Rattle.shares.proofs.Sides.{constant_total}
use Rattle.encoding.specs.Matching.{indicator}
use Rattle.protocol.proofs.Halves.{indicator_bit}
use Rattle.rules.specs.Tasks.{pairs_of, band_share}
use Rattle.rules.specs.Bits.{right_bit}
use Rattle.rules.specs.declared.state.Task.TheVariants.{Compare, Band}

-- one of the two comparisons is true at least
two_tests : (low high a : ℕ) → low < high → indicator (ltb low a) + indicator (ltb a high) ≡ indicator (ltb low a && ltb a high) + 1
two_tests low high a less = go (ltb low a) (ltb a high) refl refl
  where
    go : (above below : Bool) → ltb low a ≡ above → ltb a high ≡ below → indicator above + indicator below ≡ indicator (above && below) + 1
    go true true e f = refl
    go true false e f = refl
    go false true e f = refl
    go false false e f = absurd (omega (arith, ltb-false low a e, ltb-false a high f, less))

-- the shares u of c1 < a and v of a < c2 at box 1 and box 2
band_total : (n low high a u1 u2 v1 v2 : ℕ) → listed n ≡ true → low < high
    → (u1 + u2) % modulus n ≡ indicator (ltb low a) → (v1 + v2) % modulus n ≡ indicator (ltb a high)
    → (band_share n 1 u1 v1 + band_share n 2 u2 v2) % modulus n ≡ indicator (ltb low a && ltb a high)
unfolding constant_share
band_total n low high a u1 u2 v1 v2 l less above below =
    let p = modulus n in
    let b = bounds l in
    let bit = indicator (ltb low a && ltb a high) in
    let pairs : Cong p ((u1 + v1) % p + (u2 + v2) % p) (bit + 1) =
    cong_add cong_mod cong_mod
    ⊙ cong_eq {b = (u1 + u2) + (v1 + v2)} (omega arith)
    ⊙ cong_add (cong_sym cong_mod) (cong_sym cong_mod)
    ⊙ cong_eq (rw (above, below) (two_tests low high a less)) in
    (cong_cancel 1 (omega (arith, b)) (minus_total n ((u1 + v1) % p) ((u2 + v2) % p) 1 0 (omega (arith, b)) (omega arith) ⊙ pairs)).same
    ∙ mod-eq_of_lt (omega (arith, indicator_bit (ltb low a && ltb a high), b))

-- so where its two comparisons are right, on the shares that follow from those of a, a band is
pub band_right : (n low high i : ℕ) (shares1 shares2 : List ℕ) (each1 each2 : ℕ → ℕ)
    → let task = Band low high in
    let compared : ℕ → ℕ = right_bit n (Compare 2) (pairs_of 1 task shares1) (pairs_of 2 task shares2) in
    listed n ≡ true → (low < high) × (high < modulus n)
    → (each1 0 + each2 0) % modulus n ≡ compared 0 → (each1 1 + each2 1) % modulus n ≡ compared 1
    → (band_share n 1 (each1 0) (each1 1) + band_share n 2 (each2 0) (each2 1)) % modulus n ≡ right_bit n task shares1 shares2 i
unfolding is_side other
band_right n low high i shares1 shares2 each1 each2 l b above below =
    let a = (get_or shares1 0 0 + get_or shares2 0 0) % modulus n in
    let small : low < modulus n = omega (arith, b.0, b.1) in
    band_total n low high a (each1 0) (each2 0) (each1 1) (each2 1) l b.0
    (above ∙ rw (constant_total 1 low refl, mod-eq_of_lt small) refl)
    (below ∙ rw (constant_total 1 high refl, mod-eq_of_lt b.1) refl)
