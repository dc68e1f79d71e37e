-- The code's table is the table of specs/, each row filled up with 0 to 32 numbers: one test over all widths and powers, which antt computes.
use Prim.Native.Nat.{ℕ, ◌+◌, ◌<◌, ◌≤◌}
use mathlib.Core.Path.{◌≡◌, refl}
use mathlib.Core.Bool.{Bool, true}
use mathlib.Core.List.{List, [], ◌++◌, map}
use native.Mathlib.Omega.{arith}
use borrow.Author.Tests.{eqb-true, ltb-true}
use lib.Dec.{eqb, ltb}
use lib.ListN.{length, get_or, take, replicate}
use Rattle.lists.specs.Every.{every}
use Rattle.lists.proofs.Every.{every_at}
use Rattle.field.specs.Width.{widths, listed}
use Rattle.field.proofs.Widths.{all, each_listed}
use Rattle.encoding.specs.Polynomial.{coefficients, place_of, coefficient}

abbrev pub filled : List (List ℕ)
filled = map (λ row. take 32 (row ++ replicate 32 0)) coefficients

abbrev entry : ℕ → ℕ → ℕ
entry n k = get_or (get_or filled (place_of n widths) []) k 0

-- the test at 0 .. n
agrees : ℕ → Bool
agrees n = every (n + 1) (λ k. eqb (entry n k) (coefficient n k))

all_agree : all agrees widths ≡ true
unfolding agrees coefficient
all_agree = refl

pub entry_right : (n k : ℕ) → listed n ≡ true → k ≤ n → entry n k ≡ coefficient n k
unfolding agrees
entry_right n k l most =
    eqb-true (entry n k) (coefficient n k)
    (every_at (n + 1) (λ i. eqb (entry n i) (coefficient n i)) (each_listed agrees all_agree l) k (omega arith))

pub place_below : (n : ℕ) → listed n ≡ true → place_of n widths < 7
place_below n l = ltb-true (place_of n widths) 7 (each_listed (λ w. ltb (place_of w widths) 7) refl l)

pub row_length : (n : ℕ) → listed n ≡ true → length (get_or filled (place_of n widths) []) ≡ 32
row_length n l = eqb-true _ 32 (each_listed (λ w. eqb (length (get_or filled (place_of w widths) [])) 32) refl l)
