-- The values that the shares stand for, in the clear. No box holds one; the theorems speak of them.
use Rattle.std.specs.Prelude.{ℕ, zero, suc, ◌+◌, ◌*◌, ◌/◌, ◌%◌, leb, ltb}
use Rattle.field.specs.Width.{modulus}
use Rattle.field.specs.Subtraction.{minus}
use Rattle.shares.specs.Side.{other}
use Rattle.encoding.specs.Codes.{level_code}
use Rattle.encoding.specs.Matching.{indicator, same_bits}
use Rattle.protocol.specs.Tests.{doubled, low_bit}

-- the value that a test looks at: x, y, x − y
abbrev pub value_of : ℕ → ℕ → ℕ → ℕ → ℕ → ℕ → ℕ
value_of n x1 y1 x2 y2 zero = (x1 + x2) % modulus n
value_of n x1 y1 x2 y2 (suc zero) = (y1 + y2) % modulus n
value_of n x1 y1 x2 y2 (suc (suc t)) = minus n ((x1 + x2) % modulus n) ((y1 + y2) % modulus n)

-- how many bits the two codes of group g share: A − 1. The box of the given side has x1 and y1
abbrev pub shared_bits : ℕ → ℕ → ℕ → ℕ → ℕ → ℕ → ℕ → ℕ
shared_bits n side x1 y1 x2 y2 g =
    same_bits n (level_code n side (doubled n x1 y1 (g / n)) (g % n)) (level_code n (other side) (doubled n x2 y2 (g / n)) (g % n))

-- S, the sum of the two low bits without its carry
abbrev pub low_sum_of : ℕ → ℕ → ℕ → ℕ → ℕ → ℕ → ℕ
low_sum_of n x1 y1 x2 y2 t = (low_bit n x1 y1 t + low_bit n x2 y2 t) % 2

-- T, whether the doubled shares wrap
abbrev pub wrap_of : ℕ → ℕ → ℕ → ℕ → ℕ → ℕ → ℕ
wrap_of n x1 y1 x2 y2 t = indicator (leb (modulus n) (doubled n x1 y1 t + doubled n x2 y2 t))

-- Half(v): 1 when v < p/2
abbrev pub half : ℕ → ℕ → ℕ
half p v = indicator (ltb (2 * v) p)

abbrev pub half_of : ℕ → ℕ → ℕ → ℕ → ℕ → ℕ → ℕ
half_of n x1 y1 x2 y2 t = half (modulus n) (value_of n x1 y1 x2 y2 t)
