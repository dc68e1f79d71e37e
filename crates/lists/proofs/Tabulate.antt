-- The laws of tabulated lists.
use Prim.Native.Nat.{ℕ, zero, suc, ◌+◌, ◌<◌}
use mathlib.Core.Path.{◌≡◌, refl, sym, ap, ◌∙◌}
use mathlib.Core.List.{List, [], ◌∷◌, ◌++◌, append-nil, append_assoc}
use mathlib.Core.Logic.{⊎_elim}
use native.Mathlib.Nat.{add-zero, add-suc, le_of_suc-le-suc, not-suc-le-zero, eq-or-lt_of_le}
use native.Mathlib.Numerals.{add-one}
use native.Mathlib.Omega.{arith}
use lib.ListN.{length, get_or, length-append, get_or-append}
use lib.Seq.{get_or_at, ext_get_or}
use Rattle.lists.specs.Tabulate.{tabulate}

pub length_tabulate : (n : ℕ) (f : ℕ → ℕ) → length (tabulate n f) ≡ n
length_tabulate zero f = refl
length_tabulate (suc n) f =
    length-append (tabulate n f) (f n ∷ []) ∙ ap (λ (m : ℕ). m + 1) (length_tabulate n f) ∙ add-one n

pub get_d_tabulate : (n : ℕ) (f : ℕ → ℕ) (i d : ℕ) → i < n → get_or (tabulate n f) i d ≡ f i
get_d_tabulate zero f i d l = absurd (not-suc-le-zero l)
get_d_tabulate (suc n) f i d l =
    ⊎_elim
    (λ same. get_or_at (tabulate n f) (f n) [] d i (length_tabulate n f ∙ sym same) ∙ ap f (sym same))
    (λ less. get_or-append (tabulate n f) (f n ∷ []) d i (omega (arith, length_tabulate n f)) ∙ get_d_tabulate n f i d less)
    (eq-or-lt_of_le (le_of_suc-le-suc l))

pub tabulate_same : (n : ℕ) (f g : ℕ → ℕ) → ((i : ℕ) → i < n → f i ≡ g i) → tabulate n f ≡ tabulate n g
tabulate_same zero f g h = refl
tabulate_same (suc n) f g h =
    rw (tabulate_same n f g (λ i l. h i (omega arith)), h n (omega arith)) refl

-- a list is what it is tabulated from
pub tabulated : (l : List ℕ) (n : ℕ) (f : ℕ → ℕ) → length l ≡ n → ((i : ℕ) → i < n → get_or l i 0 ≡ f i) → l ≡ tabulate n f
tabulated l n f e h =
    ext_get_or 0 l (tabulate n f) (e ∙ sym (length_tabulate n f))
    (λ i less. h i (omega arith) ∙ sym (get_d_tabulate n f i 0 (omega arith)))

-- the first so many, then the rest
pub tabulate_append : (m n : ℕ) (f : ℕ → ℕ) → tabulate (m + n) f ≡ tabulate m f ++ tabulate n (λ j. f (m + j))
tabulate_append m zero f = rw (add-zero m) (sym (append-nil (tabulate m f)))
tabulate_append m (suc n) f =
    rw (add-suc m n) (ap (λ (l : List ℕ). l ++ (f (m + n) ∷ [])) (tabulate_append m n f))
    ∙ append_assoc (tabulate m f) (tabulate n (λ j. f (m + j))) (f (m + n) ∷ [])
