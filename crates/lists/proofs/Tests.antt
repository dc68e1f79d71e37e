-- Tests joined by && and ||, taken apart.
use mathlib.Core.Path.{◌≡◌, refl}
use mathlib.Core.Bool.{Bool, true, false, ◌&&◌, ◌||◌, false≢true}
use mathlib.Core.Logic.{◌⊎◌, inl, inr}

pub and_left : (a b : Bool) → a && b ≡ true → a ≡ true
and_left true b e = refl
and_left false b e = e

pub and_right : (a b : Bool) → a && b ≡ true → b ≡ true
and_right true b e = e
and_right false b e = absurd (false≢true e)

pub and_both : {a b : Bool} → a ≡ true → b ≡ true → a && b ≡ true
and_both {a} {b} ha hb = rw (ha, hb) refl

pub and-false : (a : Bool) {b : Bool} → b ≡ false → a && b ≡ false
and-false true e = e
and-false false e = refl

pub or_cases : (a b : Bool) → a || b ≡ true → (a ≡ true) ⊎ (b ≡ true)
or_cases true b e = inl refl
or_cases false b e = inr e

pub or_either : (a : Bool) {b : Bool} → (a ≡ true) ⊎ (b ≡ true) → a || b ≡ true
or_either true e = refl
or_either false (inl e) = absurd (false≢true e)
or_either false (inr e) = e

pub or_neither : {a b : Bool} → a ≡ false → b ≡ false → a || b ≡ false
or_neither {a} {b} ha hb = rw (ha, hb) refl
