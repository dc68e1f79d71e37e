-- The laws of digits and their value.
use Prim.Native.Nat.{ℕ, ◌+◌, ◌-◌, ◌*◌, ◌^◌, ◌<◌, ◌≤◌}
use mathlib.Core.Path.{◌≡◌}
use mathlib.Core.Bool.{true, false, ◌&&◌}
use mathlib.Core.List.{List, [], ◌∷◌}
use native.Mathlib.Numerals.{add-one}
use native.Mathlib.Omega.{arith}
use borrow.Author.Tests.{le-ltb}
use lib.Dec.{ltb}
use lib.ListN.{length, get_or, drop, drop_of_length-le}
use lib.Seq.{drop-cons}
use Rattle.std.specs.Char.{is_ascii_digit}
use Rattle.lists.proofs.Tests.{and-false}
use Rattle.lines.specs.Reading.{all_digits, value_after, value_of}

-- more digits make no value smaller
pub value_least : (v : ℕ) (s : List ℕ) → v ≤ value_after v s
unfolding value_after
value_least v [] = omega arith
value_least v (b ∷ s) = omega (arith, value_least (v * 10 + (b - 48)) s)

pub value_next : (v : ℕ) (s : List ℕ) (i : ℕ) → i < length s
    → value_after v (drop i s) ≡ value_after (v * 10 + (get_or s i 0 - 48)) (drop (i + 1) s)
unfolding value_after
value_next v s i less = rw (add-one i, drop-cons s i 0 less)

pub digits_next : (s : List ℕ) (i : ℕ) → i < length s → is_ascii_digit (get_or s i 0) ≡ true
    → all_digits (drop i s) ≡ all_digits (drop (i + 1) s)
unfolding all_digits
digits_next s i less digit = rw (add-one i, drop-cons s i 0 less, digit)

pub digits_not : (s : List ℕ) (i : ℕ) → i < length s → is_ascii_digit (get_or s i 0) ≡ false → all_digits (drop i s) ≡ false
unfolding all_digits
digits_not s i less other = rw (drop-cons s i 0 less, other)

-- no digit is left
pub digits_end : (s : List ℕ) (i : ℕ) → length s ≤ i → all_digits (drop i s) ≡ true
unfolding all_digits
digits_end s i le = rw (drop_of_length-le s le)

pub value_end : (v : ℕ) (s : List ℕ) (i : ℕ) → length s ≤ i → value_after v (drop i s) ≡ v
unfolding value_after
value_end v s i le = rw (drop_of_length-le s le)

-- a value that is too large after i + 1 digits
pub value_large : (s : List ℕ) (i v : ℕ) → i < length s → value_of s ≡ value_after v (drop i s) → 2 ^ 32 ≤ v * 10 + (get_or s i 0 - 48)
    → (all_digits s && ltb (value_of s) 4294967296) ≡ false
value_large s i v less value large =
    let least = value_least (v * 10 + (get_or s i 0 - 48)) (drop (i + 1) s) in
    and-false (all_digits s) (le-ltb _ _ (omega (arith, value, value_next v s i less, least, large)))

pub ruleset readings = (value_next, value_end, value_large, digits_next, digits_not, digits_end)
