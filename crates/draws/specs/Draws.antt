-- The draws of Marsaglia's 32-bit xorshift generator (document 02, P1).
use Rattle.std.specs.Prelude.{ℕ, zero, suc, ◌*◌, ◌/◌, ◌%◌, ◌^◌}
use Rattle.std.specs.Int.Bits.{bit_xor}
use Rattle.field.specs.Width.{modulus}

-- a word shifted left, its low 32 bits kept
abbrev pub shifted_left : ℕ → ℕ → ℕ
shifted_left v k = v * 2 ^ k % 2 ^ 32

abbrev pub shifted_right : ℕ → ℕ → ℕ
shifted_right v k = v / 2 ^ k

-- the draw that follows v
unfoldable pub next : ℕ → ℕ
next v =
    let a = bit_xor v (shifted_left v 13) in
    let b = bit_xor a (shifted_right a 17) in
    bit_xor b (shifted_left b 5)

-- the k-th draw after v, for k from 1; a deal begins with the seed as v
unfoldable pub draw : ℕ → ℕ → ℕ
draw v zero = v
draw v (suc k) = next (draw v k)

-- that draw modulo p
abbrev pub word : ℕ → ℕ → ℕ → ℕ
word n v k = draw v k % modulus n
