-- The laws of subtraction modulo p.
use Rattle.std.proofs.Common.{◌≡◌, ℕ, ◌+◌, ◌-◌, ◌<◌, ◌≤◌, true, mod-lt, arith}
use Rattle.field.specs.Width.{listed, modulus}
use Rattle.field.specs.Subtraction.{minus}
use Rattle.field.specs.Congruence.{Cong}
use Rattle.field.proofs.Widths.{bounds}
use Rattle.field.proofs.Congruences.{cong_refl, cong_eq, cong_sym, ◌⊙◌, cong_mod, cong_add, cong_cancel, cong_unique, cong_negation}

pub minus_below : (n u v : ℕ) → listed n ≡ true → minus n u v < modulus n
unfolding minus
minus_below n u v l = mod-lt _ (omega (arith, bounds l))

-- the difference and what was taken away add up
pub plus_minus : (n u v : ℕ) → v ≤ modulus n → Cong (modulus n) (v + minus n u v) u
unfolding minus
plus_minus n u v l =
    cong_add cong_refl cong_mod
    ⊙ cong_eq {b = u + (v + (modulus n - v))} (omega arith)
    ⊙ cong_add cong_refl (cong_negation l)
    ⊙ cong_eq (omega arith)

pub minus_plus : (n u v : ℕ) → v ≤ modulus n → Cong (modulus n) (minus n u v + v) u
minus_plus n u v l = cong_eq {b = v + minus n u v} (omega arith) ⊙ plus_minus n u v l

-- of two differences
pub minus_total : (n u1 u2 v1 v2 : ℕ) → v1 ≤ modulus n → v2 ≤ modulus n
    → Cong (modulus n) (minus n u1 v1 + minus n u2 v2 + (v1 + v2)) (u1 + u2)
minus_total n u1 u2 v1 v2 l1 l2 =
    cong_eq {b = (v1 + minus n u1 v1) + (v2 + minus n u2 v2)} (omega arith)
    ⊙ cong_add (plus_minus n u1 v1 l1) (plus_minus n u2 v2 l2)

-- nothing else below p adds up so
pub minus_unique : (n u v w : ℕ) → listed n ≡ true → v ≤ modulus n → w < modulus n → Cong (modulus n) (w + v) u → minus n u v ≡ w
minus_unique n u v w l lv lw h =
    cong_unique (minus_below n u v l) lw
    (cong_cancel v (omega (arith, bounds l)) (minus_plus n u v lv ⊙ cong_sym h))

-- two numbers taken away one after the other
pub minus_minus : (n u v w : ℕ) → listed n ≡ true → v + w ≤ modulus n → minus n (minus n u v) w ≡ minus n u (v + w)
minus_minus n u v w l most =
    let both = minus n u (v + w) in
    minus_unique n (minus n u v) w both l (omega arith) (minus_below n u (v + w) l)
    (cong_cancel v (omega (arith, bounds l))
    (cong_eq {b = both + (v + w)} (omega arith) ⊙ minus_plus n u (v + w) most ⊙ cong_sym (minus_plus n u v (omega arith))))
