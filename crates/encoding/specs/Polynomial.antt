-- The polynomial P of document 01: 0 at 1 .. n and 1 at n + 1, by its coefficients modulo p.
use Rattle.std.specs.Prelude.{ℕ, ◌+◌, ◌*◌, ◌^◌, cond, List, [], ◌∷◌, eqb, get_or}
use Rattle.lists.specs.Tabulate.{sum}
use Rattle.field.specs.Width.{widths}

-- g_0 .. g_n for each listed width, in the order of `widths`
abbrev pub coefficients : List (List ℕ)
coefficients =
    (6 ∷ 3 ∷ 6 ∷ 6 ∷ [])
    ∷ (30 ∷ 9 ∷ 2 ∷ 2 ∷ 27 ∷ 23 ∷ [])
    ∷ (126 ∷ 67 ∷ 87 ∷ 107 ∷ 49 ∷ 11 ∷ 115 ∷ 73 ∷ [])
    ∷ (8190 ∷ 3554 ∷ 4848 ∷ 7078 ∷ 185 ∷ 4432 ∷ 5248 ∷ 1118 ∷ 1952 ∷ 5228 ∷ 2741 ∷ 8046 ∷ 1402 ∷ 3315 ∷ [])
    ∷ (131070 ∷ 102536 ∷ 55778 ∷ 36439 ∷ 111055 ∷ 67252 ∷ 113816 ∷ 39934 ∷ 21859 ∷ 18207 ∷ 91818 ∷ 65427 ∷ 115184 ∷ 11292 ∷ 111919 ∷ 93477 ∷ 33918 ∷ 89729 ∷ [])
    ∷ (524286 ∷ 122647 ∷ 284174 ∷ 459480 ∷ 109406 ∷ 481041 ∷ 96057 ∷ 137769 ∷ 348730 ∷ 272411 ∷ 276558 ∷ 508539 ∷ 230096 ∷ 48216 ∷ 178956 ∷ 457567 ∷ 315336 ∷ 251027 ∷ 257826 ∷ 407035 ∷ [])
    ∷ (2147483646 ∷ 461530900 ∷ 866865071 ∷ 1998222739 ∷ 832285677 ∷ 838710583 ∷ 1706944120 ∷ 1025161366 ∷ 1214740610 ∷ 316969836 ∷ 1828283025 ∷ 1471285857 ∷ 1036484293 ∷ 2011943802 ∷ 1375615664 ∷ 1281456624 ∷ 1400403677 ∷ 830317927 ∷ 1182682896 ∷ 1909145922 ∷ 1726334413 ∷ 675568840 ∷ 1133818944 ∷ 1934199256 ∷ 1417814331 ∷ 1492892809 ∷ 1214898231 ∷ 382726450 ∷ 2002671384 ∷ 308059721 ∷ 387510472 ∷ 241676560 ∷ [])
    ∷ []

-- the place of n in the list, or the list's length
abbrev pub place_of : ℕ → List ℕ → ℕ
place_of n [] = 0
place_of n (w ∷ ws) = cond (eqb n w) 0 (1 + place_of n ws)

-- g_k at width n
unfoldable pub coefficient : ℕ → ℕ → ℕ
coefficient n k = get_or (get_or coefficients (place_of n widths) []) k 0

-- P(t), before it is reduced
unfoldable pub polynomial : ℕ → ℕ → ℕ
polynomial n t = sum (n + 1) (λ k. coefficient n k * t ^ k)
