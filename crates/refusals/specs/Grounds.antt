-- Grounds of refusal, in the order in which a call looks at them. The first that holds counts; 0 where none does.
use Rattle.std.specs.Prelude.{ℕ, Bool, cond, List, [], ◌∷◌, ◌++◌, map}
use Rattle.refusals.specs.Numbers.{number_of}
use Rattle.refusals.specs.declared.Refusal.{Refusal}

-- a refusal, and whether its ground holds
pub record Ground : Type 0 where
  pub refusal : Refusal
  pub holds : Bool

infixl 10 ◌when◌
abbrev pub ◌when◌ : Refusal → Bool → Ground
refusal when holds = record { refusal = refusal; holds = holds }

-- the number of the first that holds
abbrev pub earliest_of : List Ground → ℕ
earliest_of [] = 0
earliest_of (g ∷ gs) = cond g.holds (number_of g.refusal) (earliest_of gs)

-- their numbers, in order
abbrev pub numbers_of : List Ground → List ℕ
numbers_of gs = map (λ (g : Ground). number_of g.refusal) gs

-- a call's grounds are joined from short lists, one for each thing that is looked at
abbrev pub joined : List (List Ground) → List Ground
joined [] = []
joined (gs ∷ parts) = gs ++ joined parts
