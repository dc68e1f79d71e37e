-- Document 01's bench values B1 to B12, all at width 3 (p = 7): what the definitions of the rounds give, beside what the document says.
use Rattle.std.specs.Prelude.{ℕ, ◌+◌, ◌*◌, ◌%◌, List, [], ◌∷◌, replicate}
use Rattle.lists.specs.Tabulate.{tabulate, sum}
use Rattle.field.specs.Width.{modulus}
use Rattle.shares.specs.Share.{opened}
use Rattle.tape.specs.Dealt.{square_pair}
use Rattle.tape.specs.Plain.{plain_tape}
use Rattle.encoding.specs.Codes.{range_code, point_code, level_code}
use Rattle.encoding.specs.Matching.{indicator, same_bits}
use Rattle.encoding.specs.Polynomial.{polynomial}
use Rattle.protocol.specs.Tests.{doubled, exclusive, complement}
use Rattle.protocol.specs.Work.{work_length}
use Rattle.protocol.specs.Products.{Party, party}
use Rattle.protocol.specs.Exchange.{Both, answer_own, answer_others}

-- T, the wrap of the shares v1 and v2: the sum over the levels of P(A), A being 1 + the number of bits that the two codes share
unfoldable pub wrap_at : ℕ → ℕ → ℕ → ℕ
wrap_at n v1 v2 = sum n (λ i. polynomial n (1 + same_bits n (level_code n 1 v1 i) (level_code n 2 v2 i))) % modulus n

-- S = α + β − 2·α·β, α and β being the low bits of the two shares
unfoldable pub low_sum_at : ℕ → ℕ → ℕ → ℕ
low_sum_at n v1 v2 = exclusive n (v1 % 2 + v2 % 2) (v1 % 2 * (v2 % 2))

-- L = S + T − 2·S·T, the low bit of the shared value
unfoldable pub low_at : ℕ → ℕ → ℕ → ℕ
low_at n v1 v2 = exclusive n (low_sum_at n v1 v2 + wrap_at n v1 v2) (low_sum_at n v1 v2 * wrap_at n v1 v2)

-- Half of the shared value: 1 − L, each share doubled
unfoldable pub half_at : ℕ → ℕ → ℕ → ℕ
half_at n v1 v2 = complement n 1 (low_at n (doubled n v1 0 0) (doubled n v2 0 0))

-- the answer to x < y: both boxes go through all five rounds on the plain tapes, from work of zeros, and the answer shares are added.
-- The numbers stand as on plainrun's line: n x1 x2 y1 y2
unfoldable pub less_at : ℕ → ℕ → ℕ → ℕ → ℕ → ℕ
less_at n x1 x2 y1 y2 =
    let box1 : Party = party n 1 x1 y1 (plain_tape n 0 1 0) in
    let box2 : Party = party n 2 x2 y2 (plain_tape n 0 2 0) in
    let w : Both = record { own = replicate (work_length n) 0; others = replicate (work_length n) 0 } in
    (answer_own box1 box2 w + answer_others box1 box2 w) % modulus n

-- B1 to B12 by the definitions; each number to test or compare is given by two shares
unfoldable pub given : List (List ℕ)
given =
    -- B1, B2: the codes of X = 2 and of 5
    tabulate 3 (range_code 3 2)
    ∷ tabulate 3 (point_code 5)
    -- B3: P at 1, 3 and 4
    ∷ (polynomial 3 1 % modulus 3 ∷ polynomial 3 3 % modulus 3 ∷ polynomial 3 4 % modulus 3 ∷ [])
    -- B4: shares 5, 4, the wrap and the low bit; B5: 3, 3, the wrap; B6: 3, 4, the wrap and the value
    ∷ (wrap_at 3 5 4 ∷ low_at 3 5 4 ∷ [])
    ∷ (wrap_at 3 3 3 ∷ [])
    ∷ (wrap_at 3 3 4 ∷ opened 3 3 4 ∷ [])
    -- B7: Half of 3 = 5 + 5 and of 4 = 5 + 6
    ∷ (half_at 3 5 5 ∷ half_at 3 5 6 ∷ [])
    -- B8: 3 < 4, as 5 + 5 < 1 + 3; B9: 4 < 3, as 5 + 6 < 1 + 2; B10: 5 < 5, as 6 + 6 < 1 + 4; B11: 4 < 6, as 5 + 6 < 4 + 2
    ∷ (less_at 3 5 5 1 3 ∷ [])
    ∷ (less_at 3 5 6 1 2 ∷ [])
    ∷ (less_at 3 6 6 1 4 ∷ [])
    ∷ (less_at 3 5 6 4 2 ∷ [])
    -- B12: a = 2 + 3 and q = 6 + 5 is a square pair
    ∷ (indicator (square_pair 3 (2 + 3) (6 + 5)) ∷ [])
    ∷ []

-- B1 to B12 as document 01 has them; 1 for a yes, 0 for a no
unfoldable pub expected : List (List ℕ)
expected =
    (3 ∷ 7 ∷ 1 ∷ [])
    ∷ (5 ∷ 2 ∷ 1 ∷ [])
    ∷ (0 ∷ 0 ∷ 1 ∷ [])
    ∷ (1 ∷ 0 ∷ [])
    ∷ (0 ∷ [])
    ∷ (1 ∷ 0 ∷ [])
    ∷ (1 ∷ 0 ∷ [])
    ∷ (1 ∷ [])
    ∷ (0 ∷ [])
    ∷ (0 ∷ [])
    ∷ (1 ∷ [])
    ∷ (1 ∷ [])
    ∷ []
