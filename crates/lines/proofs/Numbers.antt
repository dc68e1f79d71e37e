-- When a part is a number.
use Prim.Native.Nat.{ℕ, ◌<◌, ◌≤◌}
use mathlib.Core.Path.{◌≡◌, refl}
use mathlib.Core.Bool.{Bool, true, false, ◌&&◌, not}
use mathlib.Core.List.{List}
use mathlib.Core.Logic.{◌⊎◌, ⊎_elim}
use native.Mathlib.Omega.{arith}
use borrow.Author.Tests.{lt-ltb, le-ltb, eq-eqb, ne_eqb}
use lib.Dec.{ltb}
use lib.ListN.{length, get_or}
use Rattle.lists.proofs.Tests.{and-false}
use Rattle.lines.specs.Reading.{all_digits, value_of, zero_led, is_number}

pub number_empty : (s : List ℕ) → length s ≡ 0 → is_number s ≡ false
unfolding is_number
number_empty s e = rw (le-ltb 0 (length s) (omega arith))

pub number_led : (s : List ℕ) → 1 < length s → get_or s 0 0 ≡ 48 → is_number s ≡ false
unfolding is_number
number_led s long e =
    let led : not (zero_led s) ≡ false = rw (lt-ltb 1 (length s) long, eq-eqb (get_or s 0 0) 48 e) in
    rw (and-false (ltb 0 (length s) && all_digits s) led)

not_led : (s : List ℕ) → (get_or s 0 0 ≡ 48 → ⊥) ⊎ (length s ≤ 1) → zero_led s ≡ false
not_led s h =
    ⊎_elim (λ other. and-false (ltb 1 (length s)) (ne_eqb _ _ other)) (λ short. rw (le-ltb 1 (length s) short)) h

pub and_end : (a : Bool) → a && true ≡ a
and_end true = refl
and_end false = refl

-- any other part is a number by its digits and its value
pub number_else : (s : List ℕ) → (length s ≡ 0 → ⊥) → (get_or s 0 0 ≡ 48 → ⊥) ⊎ (length s ≤ 1)
    → is_number s ≡ (all_digits s && ltb (value_of s) 4294967296)
unfolding is_number
number_else s some h = rw (lt-ltb 0 (length s) (omega arith), not_led s h, and_end (all_digits s))
