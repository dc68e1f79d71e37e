-- What a text must say of a test deal: the numbers that the dealer is asked with, then both tapes, as its rule gives them.
use Rattle.std.specs.Prelude.{ℕ, ◌≡◌, Bool, true, not, ◌&&◌, List, [], ◌∷◌, ◌++◌, eqb, get_or}
use Rattle.std.specs.Option.{is_some}
use Rattle.field.specs.Width.{listed}
use Rattle.deals.specs.Deals.{dealt_tape}
use Rattle.vectors.specs.declared.deal.Deal.{Deal}
use Rattle.vectors.specs.Numbers.{numbers_from, read_to, rest_after, spelled}

-- box 1's tape and box 2's
abbrev pub both_dealt : Deal → List ℕ
both_dealt d = dealt_tape d.seed d.width d.pair 1 d.number ++ dealt_tape d.seed d.width d.pair 2 d.number

-- the dealer refuses neither the seed nor the width, and the text goes on with both tapes
unfoldable pub deal_told : List ℕ → Deal → Bool
deal_told text d = not (eqb d.seed 0) && listed d.width && is_some (spelled text (both_dealt d))

-- seed, n, pair and tape number, in that order
abbrev pub deal_of : List ℕ → Deal
deal_of h = record { seed = get_or h 0 0; width = get_or h 1 0; pair = get_or h 2 0; number = get_or h 3 0 }

-- a text has those four, then both tapes
unfoldable pub deal_agreed : List ℕ → Bool
deal_agreed text = is_some (read_to 4 text) && deal_told (rest_after 4 text) (deal_of (numbers_from 4 text))

-- the numbers at the front of a text
abbrev pub headed : List ℕ → Deal → Type 0
headed text d = numbers_from 4 text ≡ d.seed ∷ d.width ∷ d.pair ∷ d.number ∷ []

-- there is a text with these numbers that agrees
pub record AgreeingDeal (deal : Deal) : Type 0 where
  pub text : List ℕ
  pub names : headed text deal
  pub agrees : deal_agreed text ≡ true
