-- Grounds in a chain: the first that holds counts, and 0 says that none does. The laws that join short lists of them.
use Prim.Native.Nat.{ℕ, ◌<◌}
use mathlib.Core.Path.{◌≡◌, refl}
use mathlib.Core.Bool.{Bool, true, false, cond}
use mathlib.Core.List.{List, [], ◌∷◌, ◌++◌}
use native.Mathlib.Omega.{arith}
use Rattle.refusals.specs.Numbers.{number_of}
use Rattle.refusals.specs.Grounds.{Ground, earliest_of, joined}
use Rattle.refusals.proofs.Numbers.{numbered}

-- none of them holds
abbrev pub None : List Ground → Type 0
None [] = Unit {0}
None (g ∷ gs) = (g.holds ≡ false) × None gs

-- 0 stands for none, since a refusal's number is above 0
pub pass : (g : Ground) (gs : List Ground) → earliest_of (g ∷ gs) ≡ 0 → (g.holds ≡ false) × (earliest_of gs ≡ 0)
pass g gs e = go g.holds e
  where
    go : (t : Bool) → cond t (number_of g.refusal) (earliest_of gs) ≡ 0 → (t ≡ false) × (earliest_of gs ≡ 0)
    go true z = absurd (omega (arith, z, numbered g.refusal))
    go false z = (refl, z)

pub none : (gs : List Ground) → earliest_of gs ≡ 0 → None gs
none [] e = tt
none (g ∷ gs) e =
    let p = pass g gs e in
    (p.0, none gs p.1)

pub none_earliest : (gs : List Ground) → None gs → earliest_of gs ≡ 0
none_earliest [] c = refl
none_earliest (g ∷ gs) c = rw c.0 (none_earliest gs c.1)

-- ---- one list after another

pub first_some : (gs hs : List Ground) (k : ℕ) → earliest_of gs ≡ k → 0 < k → earliest_of (gs ++ hs) ≡ k
first_some [] hs k e positive = absurd (omega (arith, e))
first_some (g ∷ gs) hs k e positive = go g.holds e (λ h. first_some gs hs k h positive)
  where
    go : (t : Bool) → cond t (number_of g.refusal) (earliest_of gs) ≡ k → (earliest_of gs ≡ k → earliest_of (gs ++ hs) ≡ k)
        → cond t (number_of g.refusal) (earliest_of (gs ++ hs)) ≡ k
    go true h later = h
    go false h later = later h

pub first_none : (gs hs : List Ground) → earliest_of gs ≡ 0 → earliest_of (gs ++ hs) ≡ earliest_of hs
first_none [] hs e = refl
first_none (g ∷ gs) hs e =
    let p = pass g gs e in
    rw p.0 (first_none gs hs p.1)

-- none of both
pub both_none : (gs hs : List Ground) → earliest_of (gs ++ hs) ≡ 0 → (earliest_of gs ≡ 0) × (earliest_of hs ≡ 0)
both_none [] hs e = (refl, e)
both_none (g ∷ gs) hs e =
    let p = pass g (gs ++ hs) e in
    let rest = both_none gs hs p.1 in
    (rw p.0 rest.0, rest.1)

-- ---- lists joined

-- none of their grounds holds
abbrev pub Nones : List (List Ground) → Type 0
Nones [] = Unit {0}
Nones (gs ∷ parts) = None gs × Nones parts

pub nones : (parts : List (List Ground)) → earliest_of (joined parts) ≡ 0 → Nones parts
nones [] e = tt
nones (gs ∷ parts) e =
    let both = both_none gs (joined parts) e in
    (none gs both.0, nones parts both.1)
