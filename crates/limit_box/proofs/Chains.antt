-- Grounds in short lists, one after another: past those of which none holds comes the one that decides.
use Prim.Native.Nat.{ℕ}
use mathlib.Core.Path.{◌≡◌, sym, ap, ◌∙◌}
use mathlib.Core.List.{List, [], ◌∷◌, append-nil}
use Rattle.refusals.specs.Numbers.{number_of}
use Rattle.refusals.proofs.Numbers.{numbered}
use Rattle.refusals.specs.Grounds.{Ground, earliest_of, joined}
use Rattle.refusals.proofs.Chains.{first_some, first_none}
use Rattle.refusals.specs.declared.Refusal.{Refusal}

-- the lists come to k
pub data ComesTo (k : ℕ) : List (List Ground) → Type 0 where
  comes : {parts : List (List Ground)} → k ≡ earliest_of (joined parts) → ComesTo k parts

pub decided : {k : ℕ} {parts : List (List Ground)} → ComesTo k parts → k ≡ earliest_of (joined parts)
decided (comes e) = e

pub past : {k : ℕ} {gs : List Ground} {parts : List (List Ground)} → 0 ≡ earliest_of gs → ComesTo k parts → ComesTo k (gs ∷ parts)
past {k} {gs} {parts} none (comes e) = comes (e ∙ sym (first_none gs (joined parts) (sym none)))

pub here : {gs : List Ground} {parts : List (List Ground)} (refusal : Refusal) → number_of refusal ≡ earliest_of gs
    → ComesTo (number_of refusal) (gs ∷ parts)
here {gs} {parts} refusal some = comes (sym (first_some gs (joined parts) (number_of refusal) (sym some) (numbered refusal)))

pub last : {k : ℕ} {gs : List Ground} → k ≡ earliest_of gs → ComesTo k (gs ∷ [])
last {k} {gs} e = comes (e ∙ ap earliest_of (sym (append-nil gs)))
