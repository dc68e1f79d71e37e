-- How codes are compared: bit by bit at a level, and level by level.
use Rattle.std.specs.Prelude.{ℕ, Bool, cond, eqb}
use Rattle.lists.specs.Tabulate.{sum}
use Rattle.encoding.specs.Codes.{bit_of, range_code, point_code}

-- a test as a number
abbrev pub indicator : Bool → ℕ
indicator t = cond t 1 0

-- how many of the n low bits two codes share
unfoldable pub same_bits : ℕ → ℕ → ℕ → ℕ
same_bits n c d = sum n (λ k. indicator (eqb (bit_of c k) (bit_of d k)))

-- how many levels have equal codes
unfoldable pub matching_levels : ℕ → ℕ → ℕ → ℕ
matching_levels n X v = sum n (λ level. indicator (eqb (range_code n X level) (point_code v level)))
