-- What document 02's P1 asks of the test dealer, over its rule.
use Rattle.std.specs.Prelude.{ℕ, ◌<◌, ◌≡◌, true, List, [], ◌∷◌, length}
use Rattle.field.specs.Width.{listed}
use Rattle.refusals.specs.Grounds.{earliest_of, numbers_of}
use Rattle.tape.specs.Layout.{tape_length}
use Rattle.tape.specs.Dealt.{Dealt}
use Rattle.deals.specs.Deals.{deal_grounds, deal_ground, deal_rule}

pub record Dealing (seed n pair number : ℕ) (t1 t2 : List ℕ) : Type 0 where
  -- the ground is the first that holds, in this order
  pub first : deal_ground seed n t1 t2 ≡ earliest_of (deal_grounds seed n t1 t2)
  pub order : numbers_of (deal_grounds seed n t1 t2) ≡ 14 ∷ 2 ∷ 12 ∷ []
  -- refused, its number is the ground, and nothing is changed
  pub refuses : (deal_ground seed n t1 t2 ≡ 0 → ⊥)
      → deal_rule seed n pair number t1 t2 ≡ record { refusal = deal_ground seed n t1 t2; tape1 = t1; tape2 = t2 }
  -- with every seed above 0, every listed width and two buffers of a tape's length it is not refused, and the tapes are dealt by the rules
  pub deals : 0 < seed → listed n ≡ true → length t1 ≡ tape_length n → length t2 ≡ tape_length n
      → ((deal_rule seed n pair number t1 t2).refusal ≡ 0)
      × Dealt n pair number (deal_rule seed n pair number t1 t2).tape1 (deal_rule seed n pair number t1 t2).tape2
