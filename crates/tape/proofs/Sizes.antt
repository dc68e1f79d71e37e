-- How large a tape can be: what keeps the counts and places of the code within their words.
use Prim.Native.Nat.{ℕ, zero, suc, ◌+◌, ◌-◌, ◌*◌, ◌<◌, ◌≤◌}
use mathlib.Core.Path.{◌≡◌, refl}
use mathlib.Core.Bool.{true}
use mathlib.Core.List.{[], ◌∷◌}
use native.Mathlib.Nat.{mul-le-mul}
use native.Mathlib.Omega.{arith}
use Rattle.field.specs.Width.{listed}
use Rattle.field.proofs.Widths.{bounds}
use Rattle.tape.specs.Layout.{section_start, body_length, tape_length, distance_back, trailer}

pub record Small (n : ℕ) : Type 0 where
  pub width : n ≤ 31
  pub square : n * n ≤ 961

pub small : {n : ℕ} → listed n ≡ true → Small n
small l = let b = bounds l in record { width = b.most; square = mul-le-mul b.most b.most }

-- where the trailer begins, counted back from the tape's end
pub body_end : (n long : ℕ) → long ≡ tape_length n → long - 7 ≡ body_length n
body_end n long e = omega arith

-- a section begins within the body
pub start_within : (n which : ℕ) → which < 3 → section_start n which ≤ body_length n
start_within n zero less = omega arith
start_within n (suc zero) less = omega arith
start_within n (suc (suc zero)) less = omega arith
start_within n (suc (suc (suc which))) less = absurd (omega arith)

-- the figures of document 01, with document 02's P7
pub body_is : (n : ℕ) → body_length n ≡ 9 * (n * n) + 12 * n + 25
body_is n = omega arith

pub tape_is : (n : ℕ) → tape_length n ≡ 9 * (n * n) + 12 * n + 32
tape_is n = omega arith

pub back_is : (n pair side number : ℕ)
    → trailer n pair side number
    ≡ (9 * (n * n) + 12 * n + 25) ∷ (3 * (n * n) + 12 * n + 25) ∷ (9 * n + 25) ∷ pair ∷ side ∷ number ∷ n ∷ []
back_is n pair side number =
    let squares : distance_back n 0 ≡ 9 * (n * n) + 12 * n + 25 = omega arith in
    let powers : distance_back n 1 ≡ 3 * (n * n) + 12 * n + 25 = omega arith in
    let triples : distance_back n 2 ≡ 9 * n + 25 = omega arith in
    rw (squares, powers, triples) refl
