-- When a deal is refused with 14, and when it is not refused.
use Prim.Native.Nat.{ℕ}
use mathlib.Core.Path.{◌≡◌, refl}
use mathlib.Core.Bool.{Bool, true, false, not, ◌||◌, true≢false}
use mathlib.Core.List.{List}
use borrow.Author.Tests.{eq-eqb, ne_eqb, eqb-true, not-false}
use lib.Dec.{eqb}
use lib.ListN.{length}
use Rattle.field.specs.Width.{listed}
use Rattle.refusals.proofs.Chains.{none}
use Rattle.tape.specs.Layout.{tape_length}
use Rattle.deals.specs.Deals.{deal_grounds, deal_ground}

-- neither of two
or_none : (a b : Bool) → (a || b) ≡ false → (a ≡ false) × (b ≡ false)
or_none true b e = absurd (true≢false e)
or_none false b e = (refl, e)

module _ (seed n : ℕ) (t1 t2 : List ℕ) where
  pub seed_ground : seed ≡ 0 → deal_ground seed n t1 t2 ≡ 14
  unfolding deal_ground
  seed_ground none = rw (eq-eqb seed 0 none) refl

  pub no_ground : (seed ≡ 0 → ⊥) → listed n ≡ true → length t1 ≡ tape_length n → length t2 ≡ tape_length n → deal_ground seed n t1 t2 ≡ 0
  unfolding deal_ground
  no_ground some width long1 long2 =
      rw (ne_eqb seed 0 some, width, eq-eqb (length t1) (tape_length n) long1, eq-eqb (length t2) (tape_length n) long2) refl

  -- where none holds
  pub passed : deal_ground seed n t1 t2 ≡ 0 → (listed n ≡ true) × (length t1 ≡ tape_length n) × (length t2 ≡ tape_length n)
  unfolding deal_ground
  passed e =
      let all = none (deal_grounds seed n t1 t2) e in
      let rooms = or_none (not (eqb (length t1) (tape_length n))) (not (eqb (length t2) (tape_length n))) all.1.1.0 in
      (not-false _ all.1.0, eqb-true _ _ (not-false _ rooms.0), eqb-true _ _ (not-false _ rooms.1))
