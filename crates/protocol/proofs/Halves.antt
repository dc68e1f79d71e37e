-- The arithmetic behind the half test and the comparison, on the whole values: no shares here.
use Prim.Native.Nat.{ℕ, ◌+◌, ◌-◌, ◌*◌, ◌%◌, ◌<◌, ◌≤◌}
use mathlib.Core.Path.{◌≡◌, refl, sym, ap, ◌∙◌}
use mathlib.Core.Bool.{Bool, true, false}
use mathlib.Core.Logic.{◌⊎◌, inl, inr}
use native.Mathlib.Nat.{le_of_lt, add-zero, mod-eq_of_lt, mod-eq-sub-mod}
use native.Mathlib.Omega.{arith}
use borrow.Author.Tests.{eqb-true, ltb-true, ltb-false, leb-true, leb-false}
use lib.Dec.{eqb, leb, ltb}
use Rattle.field.specs.Width.{modulus, listed}
use Rattle.field.specs.Subtraction.{minus}
use Rattle.field.specs.Congruence.{Cong}
use Rattle.field.proofs.Widths.{each_listed}
use Rattle.field.proofs.Congruences.{cong_eq, ◌⊙◌, cong_multiple}
use Rattle.field.proofs.Subtraction.{minus_unique}
use Rattle.encoding.specs.Matching.{indicator}
use Rattle.protocol.specs.Clear.{half}

-- ---- a test's number, with what it tells

pub less_cases : (a b : ℕ) → ((indicator (ltb a b) ≡ 1) × (a < b)) ⊎ ((indicator (ltb a b) ≡ 0) × (b ≤ a))
less_cases a b = go (ltb a b) refl
  where
    go : (t : Bool) → ltb a b ≡ t → ((indicator t ≡ 1) × (a < b)) ⊎ ((indicator t ≡ 0) × (b ≤ a))
    go true e = inl (refl, ltb-true a b e)
    go false e = inr (refl, ltb-false a b e)

pub indicator_bit : (t : Bool) → indicator t ≤ 1
indicator_bit true = omega arith
indicator_bit false = omega arith

-- p is odd
pub modulus_odd : (n : ℕ) → listed n ≡ true → modulus n % 2 ≡ 1
unfolding modulus
modulus_odd n l = eqb-true (modulus n % 2) 1 (each_listed (λ w. eqb (modulus w % 2) 1) refl l)

-- ---- sums below 2p

sum_cases : (p a b : ℕ) → a < p → b < p
    → ((indicator (leb p (a + b)) ≡ 1) × (p ≤ a + b) × ((a + b) % p ≡ a + b - p)) ⊎ ((indicator (leb p (a + b)) ≡ 0) × (a + b < p) × ((a + b) % p ≡ a + b))
sum_cases p a b la lb = go (leb p (a + b)) refl
  where
    go : (t : Bool) → leb p (a + b) ≡ t
        → ((indicator t ≡ 1) × (p ≤ a + b) × ((a + b) % p ≡ a + b - p)) ⊎ ((indicator t ≡ 0) × (a + b < p) × ((a + b) % p ≡ a + b))
    go true e =
        let over : p ≤ a + b = leb-true p (a + b) e in
        let few : a + b - p < p = omega arith in
        inl (refl, over, mod-eq-sub-mod over ∙ mod-eq_of_lt few)
    go false e =
        let under : a + b < p = leb-false p (a + b) e in
        inr (refl, under, mod-eq_of_lt under)

-- an odd number less turns the low bit
odd_less : (s p : ℕ) → p % 2 ≡ 1 → p ≤ s → (s - p) % 2 ≡ (s + 1) % 2
odd_less s p odd l =
    let e : s - p + p ≡ s = omega arith in
    odd_more (s - p) p odd ∙ ap (λ (x : ℕ). (x + 1) % 2) e
  where
    odd_more : (d p : ℕ) → p % 2 ≡ 1 → d % 2 ≡ (d + p + 1) % 2
    odd_more d p odd = omega arith

low_bits : (a b k : ℕ) → (a + b + k) % 2 ≡ ((a % 2 + b % 2) % 2 + k) % 2
low_bits a b k = omega arith

-- the low bit of the sum of two shares, from their low bits and the wrap
pub low_bit_lem : (p a b : ℕ) → p % 2 ≡ 1 → a < p → b < p → (a + b) % p % 2 ≡ ((a % 2 + b % 2) % 2 + indicator (leb p (a + b))) % 2
low_bit_lem p a b odd la lb = go (sum_cases p a b la lb)
  where
    go : ((indicator (leb p (a + b)) ≡ 1) × (p ≤ a + b) × ((a + b) % p ≡ a + b - p)) ⊎ ((indicator (leb p (a + b)) ≡ 0) × (a + b < p) × ((a + b) % p ≡ a + b))
        → (a + b) % p % 2 ≡ ((a % 2 + b % 2) % 2 + indicator (leb p (a + b))) % 2
    go (inl (one, over, rest)) = rw (one, rest) (odd_less (a + b) p odd over ∙ low_bits a b 1)
    go (inr (none, under, rest)) = rw (none, rest) (ap (λ (k : ℕ). k % 2) (sym (add-zero (a + b))) ∙ low_bits a b 0)

-- 1 minus the low bit of twice a value is the half test
pub half_bit : (p v : ℕ) → p % 2 ≡ 1 → v < p → 1 - (v + v) % p % 2 ≡ half p v
half_bit p v odd l = go (sum_cases p v v l l) (less_cases (2 * v) p)
  where
    go : ((indicator (leb p (v + v)) ≡ 1) × (p ≤ v + v) × ((v + v) % p ≡ v + v - p)) ⊎ ((indicator (leb p (v + v)) ≡ 0) × (v + v < p) × ((v + v) % p ≡ v + v))
        → ((half p v ≡ 1) × (2 * v < p)) ⊎ ((half p v ≡ 0) × (p ≤ 2 * v))
        → 1 - (v + v) % p % 2 ≡ half p v
    go (inl (one, over, rest)) (inl (h, less)) = absurd (omega arith)
    go (inl (one, over, rest)) (inr (h, more)) = rw (h, rest) (omega arith)
    go (inr (none, under, rest)) (inl (h, less)) = rw (h, rest) (omega arith)
    go (inr (none, under, rest)) (inr (h, more)) = absurd (omega arith)

-- ---- the comparison from the three half tests

-- x − y
difference_cases : (n x y : ℕ) → listed n ≡ true → x < modulus n → y < modulus n
    → ((x < y) × (minus n x y ≡ x + modulus n - y)) ⊎ ((y ≤ x) × (minus n x y ≡ x - y))
difference_cases n x y l lx ly = go (less_cases x y)
  where
    go : ((indicator (ltb x y) ≡ 1) × (x < y)) ⊎ ((indicator (ltb x y) ≡ 0) × (y ≤ x))
        → ((x < y) × (minus n x y ≡ x + modulus n - y)) ⊎ ((y ≤ x) × (minus n x y ≡ x - y))
    go (inl (one, less)) =
        let once : Cong (modulus n) (x + modulus n - y + y) x = cong_eq {b = x + modulus n * 1} (omega arith) ⊙ cong_multiple 1 in
        inl (less, minus_unique n x y _ l (le_of_lt ly) (omega arith) once)
    go (inr (none, more)) = inr (more, minus_unique n x y _ l (le_of_lt ly) (omega arith) (cong_eq (omega arith)))

-- the answer from the three half tests: 1 if x < y is 1 − U − Z + H·U + H·Z + U·Z − 2·H·U·Z
pub compared : (n x y : ℕ) → listed n ≡ true → x < modulus n → y < modulus n
    → let p = modulus n in
    let h = half p x in
    let u = half p y in
    let z = half p (minus n x y) in
    indicator (ltb x y) + (u + z + 2 * (h * u * z)) ≡ 1 + h * u + h * z + u * z
compared n x y l lx ly =
    go (modulus_odd n l) (difference_cases n x y l lx ly) (less_cases x y) (less_cases (2 * x) p) (less_cases (2 * y) p) (less_cases (2 * minus n x y) p)
  where
    p : ℕ
    p = modulus n

    z : ℕ
    z = minus n x y

    go : p % 2 ≡ 1
        → ((x < y) × (z ≡ x + p - y)) ⊎ ((y ≤ x) × (z ≡ x - y))
        → ((indicator (ltb x y) ≡ 1) × (x < y)) ⊎ ((indicator (ltb x y) ≡ 0) × (y ≤ x))
        → ((half p x ≡ 1) × (2 * x < p)) ⊎ ((half p x ≡ 0) × (p ≤ 2 * x))
        → ((half p y ≡ 1) × (2 * y < p)) ⊎ ((half p y ≡ 0) × (p ≤ 2 * y))
        → ((half p z ≡ 1) × (2 * z < p)) ⊎ ((half p z ≡ 0) × (p ≤ 2 * z))
        → indicator (ltb x y) + (half p y + half p z + 2 * (half p x * half p y * half p z))
        ≡ 1 + half p x * half p y + half p x * half p z + half p y * half p z
    go odd (inl (d, e)) (inr (b, m)) h u w = absurd (omega arith)
    go odd (inr (d, e)) (inl (b, m)) h u w = absurd (omega arith)
    go odd (inl (d, e)) (inl (b, m)) (inl (h, lh)) (inl (u, lu)) (inl (w, lw)) = absurd (omega arith)
    go odd (inl (d, e)) (inl (b, m)) (inl (h, lh)) (inl (u, lu)) (inr (w, lw)) = rw (b, h, u, w)
    go odd (inl (d, e)) (inl (b, m)) (inl (h, lh)) (inr (u, lu)) (inl (w, lw)) = rw (b, h, u, w)
    go odd (inl (d, e)) (inl (b, m)) (inl (h, lh)) (inr (u, lu)) (inr (w, lw)) = rw (b, h, u, w)
    go odd (inl (d, e)) (inl (b, m)) (inr (h, lh)) (inl (u, lu)) w = absurd (omega arith)
    go odd (inl (d, e)) (inl (b, m)) (inr (h, lh)) (inr (u, lu)) (inl (w, lw)) = absurd (omega arith)
    go odd (inl (d, e)) (inl (b, m)) (inr (h, lh)) (inr (u, lu)) (inr (w, lw)) = rw (b, h, u, w)
    go odd (inr (d, e)) (inr (b, m)) (inl (h, lh)) (inl (u, lu)) (inl (w, lw)) = rw (b, h, u, w)
    go odd (inr (d, e)) (inr (b, m)) (inl (h, lh)) (inl (u, lu)) (inr (w, lw)) = absurd (omega arith)
    go odd (inr (d, e)) (inr (b, m)) (inl (h, lh)) (inr (u, lu)) w = absurd (omega arith)
    go odd (inr (d, e)) (inr (b, m)) (inr (h, lh)) (inl (u, lu)) (inl (w, lw)) = rw (b, h, u, w)
    go odd (inr (d, e)) (inr (b, m)) (inr (h, lh)) (inl (u, lu)) (inr (w, lw)) = rw (b, h, u, w)
    go odd (inr (d, e)) (inr (b, m)) (inr (h, lh)) (inr (u, lu)) (inl (w, lw)) = rw (b, h, u, w)
    go odd (inr (d, e)) (inr (b, m)) (inr (h, lh)) (inr (u, lu)) (inr (w, lw)) = absurd (omega arith)
