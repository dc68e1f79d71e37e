-- Every code has n bits, so that comparing n bits compares codes.
use Prim.Native.Nat.{ℕ, ◌^◌, ◌<◌}
use mathlib.Core.Path.{◌≡◌}
use mathlib.Core.Bool.{Bool, true, false, cond}
use native.Mathlib.Omega.{arith}
use lib.Dec.{eqb}
use lib.Pow.{shr_le}
use Rattle.field.specs.Width.{listed, modulus}
use Rattle.field.proofs.Widths.{bounds}
use Rattle.encoding.specs.Codes.{bit_of, range_code, point_code, wrap_bound, level_code}

either_below : (t : Bool) {a b m : ℕ} → a < m → b < m → cond t a b < m
either_below true la lb = la
either_below false la lb = lb

pub code_fits : (n side v level : ℕ) → listed n ≡ true → v < modulus n → level < n → level_code n side v level < 2 ^ n
unfolding level_code range_code point_code
code_fits n side v level l h less =
    let X = wrap_bound n v in
    either_below (eqb side 1)
    (either_below (eqb (bit_of X level) 0) (omega (arith, bounds l, shr_le X level)) (omega (arith, bounds l)))
    (omega (arith, bounds l, shr_le v level))
