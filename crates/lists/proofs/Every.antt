-- The laws of a test at every index.
use Prim.Native.Nat.{ℕ, zero, suc, ◌<◌}
use mathlib.Core.Path.{◌≡◌, refl}
use mathlib.Core.Bool.{Bool, true, false}
use mathlib.Core.Logic.{⊎_elim}
use native.Mathlib.Nat.{le_of_suc-le-suc, not-suc-le-zero, eq-or-lt_of_le}
use native.Mathlib.Omega.{arith}
use Rattle.lists.specs.Every.{every}
use Rattle.lists.proofs.Tests.{and_left, and_right, and_both, and-false}

pub every_intro : (n : ℕ) (f : ℕ → Bool) → ((k : ℕ) → k < n → f k ≡ true) → every n f ≡ true
every_intro zero f h = refl
every_intro (suc n) f h = and_both (every_intro n f (λ k l. h k (omega arith))) (h n (omega arith))

pub every_at : (n : ℕ) (f : ℕ → Bool) → every n f ≡ true → (k : ℕ) → k < n → f k ≡ true
every_at zero f e k l = absurd (not-suc-le-zero l)
every_at (suc n) f e k l =
    ⊎_elim
    (λ same. rw same (and_right (every n f) (f n) e))
    (λ less. every_at n f (and_left (every n f) (f n) e) k less)
    (eq-or-lt_of_le (le_of_suc-le-suc l))

pub every_same : (n : ℕ) (f g : ℕ → Bool) → ((k : ℕ) → k < n → f k ≡ g k) → every n f ≡ every n g
every_same zero f g h = refl
every_same (suc n) f g h = rw (every_same n f g (λ k l. h k (omega arith)), h n (omega arith)) refl

-- one index at which the test fails is enough
pub every_fails : (n : ℕ) (f : ℕ → Bool) (k : ℕ) → k < n → f k ≡ false → every n f ≡ false
every_fails zero f k l e = absurd (not-suc-le-zero l)
every_fails (suc n) f k l e =
    ⊎_elim
    (λ same. and-false (every n f) (rw same at e))
    (λ less. rw (every_fails n f k less e) refl)
    (eq-or-lt_of_le (le_of_suc-le-suc l))
