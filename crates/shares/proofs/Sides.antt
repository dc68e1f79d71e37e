-- The two sides, and what a public constant's two shares add up to.
use Prim.Native.Nat.{ℕ, ◌+◌, ◌*◌, ◌<◌}
use mathlib.Core.Path.{◌≡◌, refl}
use mathlib.Core.Bool.{Bool, true, false, cond}
use mathlib.Core.Logic.{⊎_elim}
use native.Mathlib.Omega.{arith}
use borrow.Author.Tests.{eqb-true}
use lib.Dec.{eqb}
use Rattle.lists.proofs.Tests.{or_cases}
use Rattle.shares.specs.Side.{is_side, other}
use Rattle.shares.specs.Share.{constant_share}

-- what holds of side 1 and of side 2 holds of every side
pub each_side : (P : ℕ → Type 0) → P 1 → P 2 → (side : ℕ) → is_side side ≡ true → P side
unfolding is_side
each_side P one two side h =
    ⊎_elim (λ e. rw (eqb-true side 1 e) one) (λ e. rw (eqb-true side 2 e) two) (or_cases (eqb side 1) (eqb side 2) h)

pub other_side : (side : ℕ) → is_side side ≡ true → is_side (other side) ≡ true
unfolding is_side other
other_side = each_side (λ s. is_side (other s) ≡ true) refl refl

pub other_twice : (side : ℕ) → is_side side ≡ true → other (other side) ≡ side
unfolding other
other_twice = each_side (λ s. other (other s) ≡ s) refl refl

-- the two shares of a public constant add up to it
pub constant_total : (side c : ℕ) → is_side side ≡ true → constant_share side c + constant_share (other side) c ≡ c
unfolding constant_share other
constant_total side c = each_side (λ s. constant_share s c + constant_share (other s) c ≡ c) (omega arith) (omega arith) side

cond_below : (t : Bool) {c p : ℕ} → c < p → cond t c 0 < p
cond_below true l = l
cond_below false l = omega arith

pub constant_below : (side : ℕ) {c p : ℕ} → c < p → constant_share side c < p
unfolding constant_share
constant_below side l = cond_below (eqb side 1) l

cond_times : (t : Bool) (e c : ℕ) → cond t (e * c) 0 ≡ e * cond t c 0
cond_times true e c = refl
cond_times false e c = omega arith

pub constant_times : (side e c : ℕ) → constant_share side (e * c) ≡ e * constant_share side c
unfolding constant_share
constant_times side e c = cond_times (eqb side 1) e c
