-- The laws of congruence modulo p. A chain of steps is written with ⊙.
use Rattle.std.proofs.Common.{◌≡◌, ℕ, zero, suc, ◌+◌, ◌-◌, ◌*◌, ◌/◌, ◌%◌, ◌^◌, ◌<◌, ◌≤◌, sym, refl, ap, ◌∙◌, mod-eq_of_lt, pow-suc, arith}
use native.Mathlib.Nat.{mod-mod, add-mod, mod-add-div, add-mul-mod_self_left, pow-zero}
use Rattle.field.specs.Congruence.{Cong}

infixl 20 ◌⊙◌
pub cong_refl : {p a : ℕ} → Cong p a a
cong_refl = record { same = refl }

pub cong_eq : {p a b : ℕ} → a ≡ b → Cong p a b
cong_eq {p} e = record { same = ap (λ x. x % p) e }

pub cong_sym : {p a b : ℕ} → Cong p a b → Cong p b a
cong_sym h = record { same = sym h.same }

pub ◌⊙◌ : {p a b c : ℕ} → Cong p a b → Cong p b c → Cong p a c
g ⊙ h = record { same = g.same ∙ h.same }

-- a remainder stands for its number
pub cong_mod : {p a : ℕ} → Cong p (a % p) a
cong_mod {p} {a} = record { same = mod-mod a p }

-- multiples of p do not count
pub cong_multiple : {p a : ℕ} (k : ℕ) → Cong p (a + p * k) a
cong_multiple {p} {a} k = record { same = add-mul-mod_self_left a p k }

pub cong_add : {p a b c d : ℕ} → Cong p a b → Cong p c d → Cong p (a + c) (b + d)
cong_add {p} {a} {b} {c} {d} g h =
    record { same = add-mod a c p ∙ (rw (g.same, h.same) (sym (add-mod b d p))) }

-- the product of two numbers, and of their remainders
product_of_rests : {p : ℕ} (a b : ℕ) → Cong p (a * b) (a % p * (b % p))
product_of_rests {p} a b =
    let ra = a % p in
    let rb = b % p in
    let qa = a / p in
    let qb = b / p in
    let ea : ra + p * qa ≡ a = mod-add-div a p in
    let eb : rb + p * qb ≡ b = mod-add-div b p in
    cong_eq {b = (ra + p * qa) * (rb + p * qb)} (rw (ea, eb) refl)
    ⊙ cong_eq {b = ra * rb + p * (ra * qb + qa * rb + p * (qa * qb))} (omega arith)
    ⊙ cong_multiple (ra * qb + qa * rb + p * (qa * qb))

pub cong_mul : {p a b c d : ℕ} → Cong p a b → Cong p c d → Cong p (a * c) (b * d)
cong_mul {p} {a} {b} {c} {d} g h =
    product_of_rests a c ⊙ cong_eq (rw (g.same, h.same) refl) ⊙ cong_sym (product_of_rests b d)

pub cong_double : {p a b : ℕ} → Cong p a b → Cong p (2 * a) (2 * b)
cong_double h = cong_mul cong_refl h

pub cong_pow : {p a b : ℕ} (k : ℕ) → Cong p a b → Cong p (a ^ k) (b ^ k)
cong_pow {p} {a} {b} zero h = cong_eq (pow-zero a ∙ sym (pow-zero b))
cong_pow {p} {a} {b} (suc k) h = cong_eq (pow-suc a k) ⊙ cong_mul (cong_pow k h) h ⊙ cong_eq (sym (pow-suc b k))

-- two words below p that are congruent are equal
pub cong_unique : {p a b : ℕ} → a < p → b < p → Cong p a b → a ≡ b
cong_unique la lb h = sym (mod-eq_of_lt la) ∙ h.same ∙ mod-eq_of_lt lb

-- ---- differences

-- p − b is the negation of b
pub cong_negation : {p b : ℕ} → b ≤ p → Cong p (b + (p - b)) 0
cong_negation {p} {b} l = cong_eq {b = 0 + p * 1} (omega arith) ⊙ cong_multiple 1

-- what is added on both sides may be dropped
pub cong_cancel : {p a b : ℕ} (c : ℕ) → 0 < p → Cong p (a + c) (b + c) → Cong p a b
cong_cancel {p} {a} {b} c pos h =
    cong_sym (cong_multiple c)
    ⊙ cong_eq {b = a + c + c * (p - 1)} (times_less a)
    ⊙ cong_add h (cong_refl {a = c * (p - 1)})
    ⊙ cong_eq (sym (times_less b))
    ⊙ cong_multiple c
  where
    times_less : (x : ℕ) → x + p * c ≡ x + c + c * (p - 1)
    times_less x =
        let m = p - 1 in
        let e : p ≡ m + 1 = omega arith in
        ap (λ (q : ℕ). x + q * c) e ∙ omega arith

-- x + y ≡ z just when x ≡ z − y
pub cong_move : {p x y z : ℕ} → y ≤ p → Cong p (x + y) z → Cong p x (z + (p - y))
cong_move {p} {x} {y} {z} l h =
    cong_eq {b = x + 0} (omega arith)
    ⊙ cong_add cong_refl (cong_sym (cong_negation l))
    ⊙ cong_eq {b = x + y + (p - y)} (omega arith)
    ⊙ cong_add h cong_refl

pub cong_back : {p x y z : ℕ} → y ≤ p → Cong p x (z + (p - y)) → Cong p (x + y) z
cong_back {p} {x} {y} {z} l h =
    cong_add h cong_refl
    ⊙ cong_eq {b = z + (y + (p - y))} (omega arith)
    ⊙ cong_add cong_refl (cong_negation l)
    ⊙ cong_eq (omega arith)
