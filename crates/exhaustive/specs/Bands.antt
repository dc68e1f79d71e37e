-- What is counted of bands: the shares of a and the bounds for which both boxes take the band and answer as an ordinary comparison with both bounds does.
use Rattle.std.specs.Prelude.{ℕ, ◌+◌, ◌-◌, ◌*◌, ◌/◌, ◌%◌, ◌≡◌, Bool, ◌&&◌, List, ◌++◌, eqb, ltb, length}
use Rattle.lists.specs.Tabulate.{sum}
use Rattle.field.specs.Width.{modulus}
use Rattle.deals.specs.Deals.{dealt_tape}
use Rattle.encoding.specs.Matching.{indicator}
use Rattle.protocol.specs.Sizes.{tape_for}
use Rattle.exchange.specs.Jobs.{DealtAt}
use Rattle.exchange.specs.Memory.{Compared, fresh_band}
use Rattle.exhaustive.specs.Inputs.{seed_of}

-- the ordinary comparison: 1 if low < a < high, otherwise 0
abbrev pub inside : ℕ → ℕ → ℕ → ℕ
inside low high a = indicator (ltb low a && ltb a high)

-- the band of those shares of a, of pair 7 and tape numbers 0 and 1, on two fresh tapes of each box
abbrev pub band_at : ℕ → ℕ → ℕ → ℕ → ℕ → List ℕ → List ℕ → Compared
band_at n = fresh_band n 7 0

-- no box refuses it, and its answer is the comparison
unfoldable pub band_agrees : ℕ → ℕ → ℕ → ℕ → ℕ → List ℕ → List ℕ → Bool
band_agrees n low high a1 a2 t1 t2 =
    eqb (band_at n low high a1 a2 t1 t2).refusal 0 && eqb (band_at n low high a1 a2 t1 t2).less (inside low high ((a1 + a2) % modulus n))

-- 1 if input i of the bounds, which are i / p and i % p, has the first below the second
abbrev pub bounds_at : ℕ → ℕ → ℕ
bounds_at p i = indicator (ltb (i / p) (i % p))

-- 1 if so, and the band with them agrees
abbrev pub band_right_at : ℕ → ℕ → ℕ → ℕ → List ℕ → List ℕ → ℕ → ℕ
band_right_at p n a1 a2 t1 t2 i = indicator (ltb (i / p) (i % p) && band_agrees n (i / p) (i % p) a1 a2 t1 t2)

-- how many of all bounds, for one a1 and a2
unfoldable pub bands_right_of : ℕ → ℕ → ℕ → List ℕ → List ℕ → ℕ
bands_right_of n a1 a2 t1 t2 = sum (modulus n * modulus n) (band_right_at (modulus n) n a1 a2 t1 t2)

-- how many bounds there are
abbrev pub pairs_of_bounds : ℕ → ℕ
pairs_of_bounds p = p * (p - 1) / 2

-- a box's tapes of numbers 0 and 1, each from a seed of its own: those for shares below 31 are 1 to 961
unfoldable pub two_tapes : ℕ → ℕ → ℕ → List ℕ
two_tapes n seed side = dealt_tape seed n 7 side 0 ++ dealt_tape (seed + 961) n 7 side 1

-- both boxes' tapes of these numbers, dealt by the rules
pub record TwoDealt (n : ℕ) (t1 t2 : List ℕ) : Type 0 where
  pub long1 : length t1 ≡ tape_for n 2
  pub long2 : length t2 ≡ tape_for n 2
  pub first : DealtAt n 7 0 t1 t2 0
  pub second : DealtAt n 7 0 t1 t2 1

-- how many of all bounds, on the tapes for a1 and a2
abbrev pub bands_right_with : ℕ → ℕ → ℕ → ℕ
bands_right_with n a1 a2 = bands_right_of n a1 a2 (two_tapes n (seed_of a1 a2) 1) (two_tapes n (seed_of a1 a2) 2)

-- the same for input i of a
abbrev pub bands_right_on : ℕ → ℕ → ℕ → ℕ
bands_right_on p n i = bands_right_with n (i / p) (i % p)

-- how many of all a1, a2 and bounds
unfoldable pub all_bands_right : ℕ → ℕ
all_bands_right n = sum (modulus n * modulus n) (bands_right_on (modulus n) n)

-- ---- the request's cases

-- at width 3 with the bounds 2 and 5, of a that is shared as 6 and a + 1
abbrev pub case_at : ℕ → Compared
case_at a = band_at 3 2 5 6 ((a + 1) % 7) (two_tapes 3 1 1) (two_tapes 3 1 2)
