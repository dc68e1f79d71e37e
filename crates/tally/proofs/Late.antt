-- The laws of late numbers that the calls and the lists go by: a number is late just where a tape above it is spent.
use Prim.Native.Nat.{ℕ, ◌<◌, ◌≤◌}
use mathlib.Core.Path.{◌≡◌, refl, sym, ap, ◌∙◌}
use mathlib.Core.Bool.{Bool, true, false, not, true≢false}
use mathlib.Core.List.{List}
use mathlib.Core.Logic.{◌⊎◌, inl, inr}
use native.Mathlib.Omega.{arith}
use borrow.Author.Tests.{le-leb, lt-leb, ltb-true, ltb-false}
use lib.Dec.{leb, ltb}
use lib.ListN.{length}
use Rattle.lists.proofs.Every.{every_intro, every_fails}
use Rattle.lists.proofs.Tests.{or_either, or_neither}
use Rattle.tally.specs.Tally.{tapes_of, is_fresh, late}
use Rattle.tally.specs.Highest.{Highest, LateMeans}

-- one spent tape above it is enough
pub late_by : (tally : List ℕ) (number k : ℕ) → number < k → k < tapes_of (length tally) → is_fresh tally k ≡ false → late tally number ≡ true
unfolding late
late_by tally number k above within spent =
    ap not (every_fails (tapes_of (length tally)) _ k within (or_neither (lt-leb k number above) spent))

-- no spent tape above it
pub not_late : (tally : List ℕ) (number : ℕ) → ((k : ℕ) → number < k → k < tapes_of (length tally) → is_fresh tally k ≡ true)
    → late tally number ≡ false
unfolding late
not_late tally number fresh_above =
    ap not (every_intro (tapes_of (length tally)) _ (λ k within. or_either _ (go k within (ltb number k) refl)))
  where
    go : (k : ℕ) → k < tapes_of (length tally) → (t : Bool) → ltb number k ≡ t → (leb k number ≡ true) ⊎ (is_fresh tally k ≡ true)
    go k within true above = inr (fresh_above k (ltb-true number k above) within)
    go k within false below = inl (le-leb k number (ltb-false number k below))

-- what is spent is not above it
pub spent_below : (tally : List ℕ) (number k : ℕ) → late tally number ≡ false → k < tapes_of (length tally) → is_fresh tally k ≡ false → k ≤ number
spent_below tally number k e within spent = go (ltb number k) refl
  where
    go : (t : Bool) → ltb number k ≡ t → k ≤ number
    go true above = absurd (true≢false (sym (late_by tally number k (ltb-true number k above) within spent) ∙ e))
    go false below = ltb-false number k below

below : (tally : List ℕ) (highest number : ℕ) → Highest tally highest → late tally number ≡ ltb number highest
below tally highest number h = go (ltb number highest) refl
  where
    go : (t : Bool) → ltb number highest ≡ t → late tally number ≡ t
    go true less = late_by tally number highest (ltb-true number highest less) h.within h.spent
    go false most =
        not_late tally number (λ k above within. h.above k (omega (arith, above, ltb-false number highest most)) within)

pub late_means : LateMeans
late_means =
    record { below = below; none_spent = λ tally number all_fresh. not_late tally number (λ k above within. all_fresh k within) }
