-- The laws of lists joined from parts of one size: which part stands where, and runs of stores that write part after part.
use Prim.Native.Nat.{ℕ, zero, suc, ◌+◌, ◌-◌, ◌*◌, ◌<◌, ◌≤◌}
use mathlib.Core.Path.{◌≡◌, refl, sym, ap, ◌∙◌}
use mathlib.Core.Bool.{Bool, true}
use mathlib.Core.List.{List, [], ◌∷◌, ◌++◌}
use mathlib.Core.Logic.{◌⊎◌, inl, inr, ⊎_elim}
use native.Mathlib.Nat.{zero-mul, suc-mul, mul-le-mul_right, not-suc-le-zero, le_of_suc-le-suc, eq-or-lt_of_le}
use native.Mathlib.Omega.{arith}
use lib.ListN.{length, get_or, set, take, drop, length-append}
use lib.Seq.{sets, take-add}
use Rattle.std.proofs.lemmas.List.{get_or-take, get_or-drop, length-drop, length-take-le, take_all, drop_at, take-append-le, drop-append-le, drop-set-lt, get_or_append_left, get_or-append_right}
use Rattle.std.proofs.lemmas.Bool.{cases_lt}
use Rattle.lists.specs.Every.{every}
use Rattle.lists.specs.Joined.{chained, part}
use Rattle.lists.proofs.Every.{every_intro, every_at}
use Rattle.lists.proofs.Sets.{sets_append, sets_front}

pub chained_same : {A : Type 0} (n : ℕ) (f g : ℕ → List A) → ((i : ℕ) → i < n → f i ≡ g i) → chained n f ≡ chained n g
chained_same zero f g h = refl
chained_same (suc n) f g h = rw (chained_same n f g (λ i l. h i (omega arith)), h n (omega arith)) refl

pub length_chained : (n size : ℕ) (f : ℕ → List ℕ) → ((i : ℕ) → i < n → length (f i) ≡ size) → length (chained n f) ≡ n * size
length_chained zero size f h = omega arith
length_chained (suc n) size f h =
    omega (arith, suc-mul n size, length-append (chained n f) (f n), length_chained n size f (λ i l. h i (omega arith)), h n (omega arith))

-- part i lies within n parts
pub within : (n size i : ℕ) → i < n → i * size + size ≤ n * size
within n size i less = omega (arith, suc-mul i size, mul-le-mul_right size less)

-- ---- a part of a list

pub length_part : (size : ℕ) (words : List ℕ) (i : ℕ) → i * size + size ≤ length words → length (part size words i) ≡ size
length_part size words i room = length-take-le size (drop (i * size) words) (omega (arith, length-drop (i * size) words))

pub get_part : (size : ℕ) (words : List ℕ) (i j : ℕ) → j < size → get_or (part size words i) j 0 ≡ get_or words (i * size + j) 0
get_part size words i j less = get_or-take size (drop (i * size) words) j 0 less ∙ get_or-drop (i * size) words j 0

pub part_one : (words : List ℕ) (size : ℕ) → length words ≡ size → part size words 0 ≡ words
part_one words size long = rw (zero-mul size) (take_all size words (omega (arith, long)))

-- what is put behind a part does not change it
part_append : (size : ℕ) (words rest : List ℕ) (i : ℕ) → i * size + size ≤ length words → part size (words ++ rest) i ≡ part size words i
part_append size words rest i room =
    ap (take size) (drop-append-le (i * size) words rest (omega arith))
    ∙ take-append-le size (drop (i * size) words) rest (omega (arith, length-drop (i * size) words))

-- the part behind so many
part_next : (size : ℕ) (words last : List ℕ) (n : ℕ) → length words ≡ n * size → length last ≡ size → part size (words ++ last) n ≡ last
part_next size words last n before long =
    ap (take size) (drop_at words last (n * size) before) ∙ take_all size last (omega (arith, long))

-- ---- parts joined

pub part_chained : (n size : ℕ) (f : ℕ → List ℕ) (i : ℕ) → i < n → ((k : ℕ) → k < n → length (f k) ≡ size) → part size (chained n f) i ≡ f i
part_chained zero size f i less h = absurd (not-suc-le-zero less)
part_chained (suc n) size f i less h =
    let each : (k : ℕ) → k < n → length (f k) ≡ size = λ k l. h k (omega arith) in
    let long : length (chained n f) ≡ n * size = length_chained n size f each in
    ⊎_elim
    (λ same. rw same (part_next size (chained n f) (f n) n long (h n (omega arith))))
    (λ before. part_append size (chained n f) (f n) i (rw long (within n size i before)) ∙ part_chained n size f i before each)
    (eq-or-lt_of_le (le_of_suc-le-suc less))

-- the first so many parts of a list
chained_front : (n size : ℕ) (words : List ℕ) → chained n (part size words) ≡ take (n * size) words
chained_front zero size words = rw (zero-mul size) refl
chained_front (suc n) size words =
    ap (λ (front : List ℕ). front ++ part size words n) (chained_front n size words)
    ∙ sym (take-add (n * size) size words)
    ∙ ap (λ (k : ℕ). take k words) (sym (suc-mul n size))

pub chained_part : (n size : ℕ) (words : List ℕ) → length words ≡ n * size → chained n (part size words) ≡ words
chained_part n size words long = chained_front n size words ∙ take_all (n * size) words (omega (arith, long))

-- ---- stores of part after part

-- a turn of a loop
pub sets_chained : (l : List ℕ) (k size : ℕ) (f : ℕ → List ℕ) → ((i : ℕ) → i < k → length (f i) ≡ size)
    → sets (sets l 0 (chained k f)) (k * size) (f k) ≡ sets l 0 (chained (suc k) f)
sets_chained l k size f h =
    sym
    (sets_append l 0 (chained k f) (f k)
    ∙ ap (λ (at : ℕ). sets (sets l 0 (chained k f)) at (f k)) (omega (arith, length_chained k size f h)))

-- what was stored is read back
pub part_sets : (l : List ℕ) (n size : ℕ) (f : ℕ → List ℕ) (i : ℕ) → i < n → n * size ≤ length l → ((k : ℕ) → k < n → length (f k) ≡ size)
    → part size (sets l 0 (chained n f)) i ≡ f i
part_sets l n size f i less room h =
    let long : length (chained n f) ≡ n * size = length_chained n size f h in
    ap (λ (words : List ℕ). part size words i) (sets_front l (chained n f) (rw long room))
    ∙ part_append size (chained n f) (drop (length (chained n f)) l) i (rw long (within n size i less))
    ∙ part_chained n size f i less h

-- what stands behind a run of stores
drop_sets : (l : List ℕ) (at : ℕ) (vs : List ℕ) (k : ℕ) → at + length vs ≤ k → drop k (sets l at vs) ≡ drop k l
drop_sets l at [] k over = refl
drop_sets l at (v ∷ vs) k over = drop_sets (set l at v) (suc at) vs k (omega arith) ∙ drop-set-lt k l at v (omega arith)

-- a part that no turn has reached
pub part_unset : (l : List ℕ) (k size : ℕ) (f : ℕ → List ℕ) (i : ℕ) → k ≤ i → ((j : ℕ) → j < k → length (f j) ≡ size)
    → part size (sets l 0 (chained k f)) i ≡ part size l i
part_unset l k size f i over h =
    ap (take size)
    (drop_sets l 0 (chained k f) (i * size) (omega (arith, length_chained k size f h, mul-le-mul_right size over)))

-- ---- a test of every word

every_append : (p : ℕ → Bool) (xs ys : List ℕ) → every (length xs) (λ k. p (get_or xs k 0)) ≡ true
    → every (length ys) (λ k. p (get_or ys k 0)) ≡ true → every (length (xs ++ ys)) (λ k. p (get_or (xs ++ ys) k 0)) ≡ true
every_append p xs ys front back = every_intro (length (xs ++ ys)) _ (λ k less. go k less (cases_lt k (length xs)))
  where
    go : (k : ℕ) → k < length (xs ++ ys) → (k < length xs) ⊎ (length xs ≤ k) → p (get_or (xs ++ ys) k 0) ≡ true
    go k less (inl low) = ap p (get_or_append_left xs ys 0 k low) ∙ every_at (length xs) _ front k low
    go k less (inr high) =
        ap p (get_or-append_right xs ys (length xs) k 0 refl high)
        ∙ every_at (length ys) _ back (k - length xs) (omega (arith, less, length-append xs ys))

pub all_chained : (p : ℕ → Bool) (n size : ℕ) (f : ℕ → List ℕ) → ((i : ℕ) → i < n → every (length (f i)) (λ k. p (get_or (f i) k 0)) ≡ true)
    → every (length (chained n f)) (λ k. p (get_or (chained n f) k 0)) ≡ true
all_chained p zero size f h = refl
all_chained p (suc n) size f h = every_append p (chained n f) (f n) (all_chained p n size f (λ i l. h i (omega arith))) (h n (omega arith))

pub all_part : (p : ℕ → Bool) (size : ℕ) (words : List ℕ) (i : ℕ) → i * size + size ≤ length words
    → every (length words) (λ k. p (get_or words k 0)) ≡ true → every (length (part size words i)) (λ k. p (get_or (part size words i) k 0)) ≡ true
all_part p size words i room all =
    every_intro (length (part size words i)) _
    (λ k less.
    let low : k < size = omega (arith, less, length_part size words i room) in
    ap p (get_part size words i k low) ∙ every_at (length words) _ all (i * size + k) (omega arith))
