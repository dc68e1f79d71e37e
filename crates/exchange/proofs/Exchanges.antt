-- The protocol's exchange, one round after another, and its answer shares.
use Prim.Native.Nat.{ℕ, ◌+◌, ◌<◌}
use mathlib.Core.Path.{◌≡◌, refl}
use mathlib.Core.Bool.{true}
use native.Mathlib.Numerals.{add-one}
use Rattle.field.specs.Width.{modulus, listed}
use Rattle.protocol.specs.Products.{Party}
use Rattle.protocol.specs.Rounds.{earlier_rounds, last_round, message, after_hearing, answer_share}
use Rattle.protocol.specs.Exchange.{Both, exchanged, sent_own, sent_others, answer_own, answer_others}
use Rattle.protocol.proofs.Below.{answer_below}

module _ (own other : Party) (w : Both) where
  -- one round more
  pub more_own : (r : ℕ) → (exchanged own other w (r + 1)).own ≡ after_hearing own (exchanged own other w r).own (r + 1) (message other (exchanged own other w r).others (r + 1))
  unfolding exchanged
  more_own r = rw (add-one r)

  pub more_others : (r : ℕ) → (exchanged own other w (r + 1)).others ≡ after_hearing other (exchanged own other w r).others (r + 1) (message own (exchanged own other w r).own (r + 1))
  unfolding exchanged
  more_others r = rw (add-one r)

  -- the last one
  pub last_own : answer_own own other w ≡ answer_share own (exchanged own other w earlier_rounds).own (message other (exchanged own other w earlier_rounds).others last_round)
  unfolding answer_own sent_others
  last_own = refl

  pub last_others : answer_others own other w ≡ answer_share other (exchanged own other w earlier_rounds).others (message own (exchanged own other w earlier_rounds).own last_round)
  unfolding answer_others sent_own
  last_others = refl

  -- the answer shares are below p
  pub own_below : listed own.n ≡ true → answer_own own other w < modulus own.n
  own_below l = rw last_own (answer_below own l (exchanged own other w earlier_rounds).own (message other (exchanged own other w earlier_rounds).others last_round))

  pub others_below : listed other.n ≡ true → answer_others own other w < modulus other.n
  others_below l = rw last_others (answer_below other l (exchanged own other w earlier_rounds).others (message own (exchanged own other w earlier_rounds).own last_round))
