-- The answer from the three half tests H, U and Z, in the clear and modulo p, in two forms: that of the five rounds, which the code works out by shares,
-- and that of document 01's six rounds. They are one number, whatever H, U and Z are.
use Rattle.std.specs.Prelude.{ℕ, ◌+◌, ◌*◌, ◌%◌, ◌<◌, ◌≡◌, true, ltb}
use Rattle.field.specs.Width.{modulus, listed}
use Rattle.field.specs.Subtraction.{minus}
use Rattle.encoding.specs.Matching.{indicator}
use Rattle.protocol.specs.Clear.{half}

-- document 02, P7: 1 − U − Z + H·U + H·Z + U·Z − 2·H·U·Z
unfoldable pub five_rounds : ℕ → ℕ → ℕ → ℕ → ℕ
five_rounds n h u z = minus n (1 + h * u + h * z + u * z) ((u + z + 2 * (h * u * z)) % modulus n)

-- document 01: H − M + K, M being H · U and K being (1 − H − U + 2·M) · (1 − Z)
unfoldable pub six_rounds : ℕ → ℕ → ℕ → ℕ → ℕ
six_rounds n h u z =
    let p = modulus n in
    let m = h * u in
    let k = minus n (1 + 2 * m) ((h + u) % p) * minus n 1 (z % p) in
    (minus n h (m % p) + k) % p

pub record Forms : Type 0 where
  -- for any H, U and Z
  pub same : (n h u z : ℕ) → listed n ≡ true → five_rounds n h u z ≡ six_rounds n h u z
  -- so five rounds and six give the same bit for every x and y, the one of x < y: H, U and Z are the half tests of x, y and x − y
  pub bit : (n x y : ℕ) → listed n ≡ true → x < modulus n → y < modulus n
      → let p = modulus n in
      (five_rounds n (half p x) (half p y) (half p (minus n x y)) ≡ indicator (ltb x y))
      × (six_rounds n (half p x) (half p y) (half p (minus n x y)) ≡ indicator (ltb x y))
