-- The grounds of several jobs, one job after the other: the first job that has one decides.
use Prim.Native.Nat.{ℕ, zero, suc, ◌<◌, ◌≤◌}
use mathlib.Core.Path.{◌≡◌, refl, ◌∙◌}
use mathlib.Core.List.{List}
use mathlib.Core.Logic.{⊎_elim}
use native.Mathlib.Nat.{not-suc-le-zero, le_of_suc-le-suc, eq-or-lt_of_le}
use native.Mathlib.Omega.{arith}
use Rattle.std.proofs.lemmas.List.{map-append}
use Rattle.lists.specs.Joined.{chained}
use Rattle.refusals.specs.Grounds.{Ground, earliest_of, numbers_of}
use Rattle.refusals.proofs.Chains.{first_some, first_none, both_none}

-- where none of them has one, no job has
pub chained_none : (count : ℕ) (f : ℕ → List Ground) → earliest_of (chained count f) ≡ 0 → (i : ℕ) → i < count → earliest_of (f i) ≡ 0
chained_none zero f e i less = absurd (not-suc-le-zero less)
chained_none (suc k) f e i less =
    let both = both_none (chained k f) (f k) e in
    ⊎_elim (λ same. rw same both.1) (λ before. chained_none k f both.0 i before) (eq-or-lt_of_le (le_of_suc-le-suc less))

-- and the other way round
pub none_chained : (count : ℕ) (f : ℕ → List Ground) → ((i : ℕ) → i < count → earliest_of (f i) ≡ 0) → earliest_of (chained count f) ≡ 0
none_chained zero f h = refl
none_chained (suc k) f h = first_none (chained k f) (f k) (none_chained k f (λ i less. h i (omega arith))) ∙ h k (omega arith)

-- after jobs that have none the next one's counts
pub chained_next : (k : ℕ) (f : ℕ → List Ground) → earliest_of (chained k f) ≡ 0 → earliest_of (chained (suc k) f) ≡ earliest_of (f k)
chained_next k f e = first_none (chained k f) (f k) e

-- what the first so many jobs have, all have
pub chained_some : (k count : ℕ) (f : ℕ → List Ground) (cause : ℕ) → k ≤ count → earliest_of (chained k f) ≡ cause → 0 < cause
    → earliest_of (chained count f) ≡ cause
chained_some k zero f cause most e positive =
    let none : k ≡ 0 = omega arith in
    rw none at e
chained_some k (suc m) f cause most e positive = ⊎_elim
    (λ same. rw same at e)
    (λ before. first_some (chained m f) (f m) cause (chained_some k m f cause (le_of_suc-le-suc before) e positive) positive)
    (eq-or-lt_of_le most)

-- their numbers, job by job
pub numbers_chained : (count : ℕ) (f : ℕ → List Ground) → numbers_of (chained count f) ≡ chained count (λ i. numbers_of (f i))
numbers_chained zero f = refl
numbers_chained (suc k) f = rw (map-append _ (chained k f) (f k), numbers_chained k f) refl
