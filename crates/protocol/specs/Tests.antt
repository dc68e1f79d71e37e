-- The three half tests that run side by side: of x, of y and of x − y (document 01, "From wrap to less-than"), as one box holds them.
use Rattle.std.specs.Prelude.{ℕ, zero, suc, ◌+◌, ◌%◌}
use Rattle.field.specs.Width.{modulus}
use Rattle.field.specs.Subtraction.{minus}
use Rattle.shares.specs.Share.{constant_share}

-- the box's share of twice the tested value
abbrev pub doubled : ℕ → ℕ → ℕ → ℕ → ℕ
doubled n x y zero = (x + x) % modulus n
doubled n x y (suc zero) = (y + y) % modulus n
doubled n x y (suc (suc t)) = (minus n x y + minus n x y) % modulus n

-- the low bit of that share: α at box 1, β at box 2
abbrev pub low_bit : ℕ → ℕ → ℕ → ℕ → ℕ
low_bit n x y test = doubled n x y test % 2

-- a share of 1 − v
unfoldable pub complement : ℕ → ℕ → ℕ → ℕ
complement n side v = minus n (constant_share side 1) v

-- a share of u + v − 2·u·v, from the shares of u + v and of u · v
unfoldable pub exclusive : ℕ → ℕ → ℕ → ℕ
exclusive n total product = minus n total ((product + product) % modulus n)
