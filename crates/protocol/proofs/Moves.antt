-- A mask that moves with the value it hides: the word that is sent stays, and moving back undoes it.
use Prim.Native.Nat.{ℕ, ◌+◌, ◌-◌, ◌<◌, ◌≤◌}
use mathlib.Core.Path.{◌≡◌}
use mathlib.Core.Bool.{true}
use native.Mathlib.Nat.{le_of_lt, mod-lt}
use native.Mathlib.Omega.{arith}
use Rattle.field.specs.Width.{modulus, listed}
use Rattle.field.specs.Congruence.{Cong}
use Rattle.field.specs.Subtraction.{minus}
use Rattle.field.proofs.Subtraction.{minus_below, plus_minus}
use Rattle.field.proofs.Widths.{bounds}
use Rattle.field.proofs.Congruences.{cong_refl, cong_eq, cong_sym, ◌⊙◌, cong_mod, cong_add, cong_cancel, cong_unique}
use Rattle.shares.specs.Share.{masked}
use Rattle.protocol.specs.Shift.{moved}

module _ (n : ℕ) (l : listed n ≡ true) where
  pos : 0 < modulus n
  pos = omega (arith, bounds l)

  pub moved_below : (a v v' : ℕ) → moved n a v v' < modulus n
  unfolding moved
  moved_below a v v' = mod-lt _ pos

  -- the moved mask, and the value before, come to the mask and the value after
  moved_plus : (a v v' : ℕ) → v ≤ modulus n → Cong (modulus n) (moved n a v v' + v) (a + v')
  unfolding moved
  moved_plus a v v' lv =
      cong_add cong_mod cong_refl
      ⊙ cong_eq {b = a + (v + minus n v' v)} (omega arith)
      ⊙ cong_add cong_refl (plus_minus n v' v lv)

  -- u and u' are the box's shares of V and V' beside the same other share o: the same word is sent
  pub moved_same : (u u' o v v' a : ℕ) → v ≤ modulus n → a < modulus n
      → Cong (modulus n) (u + o) v → Cong (modulus n) (u' + o) v'
      → masked n u' (moved n a v v') ≡ masked n u a
  moved_same u u' o v v' a lv la hu hu' =
      let a' = moved n a v v' in
      let m = masked n u a in
      let m' = masked n u' a' in
      let old : Cong (modulus n) (a + m) u = plus_minus n u a (le_of_lt la) in
      let new : Cong (modulus n) (a' + m') u' = plus_minus n u' a' (le_of_lt (moved_below a v v')) in
      cong_unique (minus_below n u' a' l) (minus_below n u a l)
      (cong_cancel (a + v' + v + o) pos
      (cong_eq {b = m' + (a + v') + (v + o)} (omega arith)
      ⊙ cong_add (cong_add cong_refl (cong_sym (moved_plus a v v' lv))) cong_refl
      ⊙ cong_eq {b = (a' + m') + (o + (v + v))} (omega arith)
      ⊙ cong_add new cong_refl
      ⊙ cong_eq {b = (u' + o) + (v + v)} (omega arith)
      ⊙ cong_add hu' cong_refl
      ⊙ cong_eq {b = v + (v' + v)} (omega arith)
      ⊙ cong_add (cong_sym hu) cong_refl
      ⊙ cong_eq {b = u + (o + (v' + v))} (omega arith)
      ⊙ cong_add (cong_sym old) cong_refl
      ⊙ cong_eq (omega arith)))

  -- the box's own share moves: no other share is needed
  pub moved_own : (u u' a : ℕ) → u ≤ modulus n → a < modulus n → masked n u' (moved n a u u') ≡ masked n u a
  moved_own u u' a lu la = moved_same u u' 0 u u' a lu la (cong_eq (omega arith)) (cong_eq (omega arith))

  pub moved_back : (a v v' : ℕ) → v ≤ modulus n → v' ≤ modulus n → a < modulus n → moved n (moved n a v v') v' v ≡ a
  moved_back a v v' lv lv' la =
      let a' = moved n a v v' in
      cong_unique (moved_below a' v' v) la
      (cong_cancel v' pos (moved_plus a' v' v lv' ⊙ moved_plus a v v' lv))
