-- From a round to its entry of a table: what holds of every entry, and of what stands for no round, holds at every round. And a law over all
-- rounds from one proof for each.
use Prim.Native.Nat.{ℕ, zero, suc, ◌<◌}
use mathlib.Core.Path.{◌≡◌, refl, ap, ◌∙◌}
use mathlib.Core.List.{List, [], ◌∷◌}
use mathlib.Core.Logic.{⊎_elim}
use native.Mathlib.Nat.{le_of_suc-le-suc, eq-or-lt_of_le}
use borrow.Author.Tests.{ne_eqb}
use native.Mathlib.Omega.{arith}
use lib.ListN.{length, get_or}
use Rattle.std.specs.Prelude.{None}
use Rattle.protocol.specs.Products.{Party}
use Rattle.protocol.specs.Rounds.{last_round, at_round, word_table, round_words, message_table, message, hearing_table, after_hearing, share_after}

-- every entry
abbrev pub Each : {A : Type 0} → (A → Type 0) → List A → Type 0
Each P [] = Unit {0}
Each P (a ∷ us) = P a × Each P us

pub each_at : {A : Type 0} (P : A → Type 0) (us : List A) (none : A) → Each P us → P none → (k : ℕ) → P (get_or us k none)
each_at P [] none e n k = n
each_at P (a ∷ us) none e n zero = e.0
each_at P (a ∷ us) none e n (suc k) = each_at P us none e.1 n k

pub at_each : {A : Type 0} (P : A → Type 0) (rounds : List A) (none : A) → Each P rounds → P none → (round : ℕ) → P (at_round round rounds none)
at_each P rounds none e n zero = n
at_each P rounds none e n (suc k) = each_at P rounds none e n k

-- every two entries of two tables
abbrev pub Both : {A B : Type 0} → (A → B → Type 0) → List A → List B → Type 0
Both P [] [] = Unit {0}
Both P [] (b ∷ vs) = ⊥
Both P (a ∷ us) [] = ⊥
Both P (a ∷ us) (b ∷ vs) = P a b × Both P us vs

both_at : {A B : Type 0} (P : A → B → Type 0) (us : List A) (vs : List B) (none : A) (none' : B) → Both P us vs → P none none'
    → (k : ℕ) → P (get_or us k none) (get_or vs k none')
both_at P [] [] none none' e n k = n
both_at P [] (b ∷ vs) none none' e n k = absurd e
both_at P (a ∷ us) [] none none' e n k = absurd e
both_at P (a ∷ us) (b ∷ vs) none none' e n zero = e.0
both_at P (a ∷ us) (b ∷ vs) none none' e n (suc k) = both_at P us vs none none' e.1 n k

pub at_both : {A B : Type 0} (P : A → B → Type 0) (rounds : List A) (rounds' : List B) (none : A) (none' : B) → Both P rounds rounds'
    → P none none' → (round : ℕ) → P (at_round round rounds none) (at_round round rounds' none')
at_both P rounds rounds' none none' e n zero = n
at_both P rounds rounds' none none' e n (suc k) = both_at P rounds rounds' none none' e n k

-- a law at each of so many rounds, and at all later ones
abbrev pub AtRounds : ℕ → (ℕ → Type 0) → Type 0
AtRounds zero P = (round : ℕ) → P round
AtRounds (suc count) P = P 0 × AtRounds count (λ round. P (suc round))

pub by_round : (count : ℕ) (P : ℕ → Type 0) → AtRounds count P → (round : ℕ) → P round
by_round zero P e round = e round
by_round (suc count) P e zero = e.0
by_round (suc count) P e (suc round) = by_round count (λ round. P (suc round)) e.1 round

-- none of the rounds 1 to count, as a match that has an arm for each of them leaves it
abbrev pub Outside : ℕ → ℕ → Type 0
Outside zero round = Unit {0}
Outside (suc k) round = Outside k round × (round ≡ suc k → ⊥)

outside_at : (count round : ℕ) → Outside count round → (k : ℕ) → k < count → round ≡ suc k → ⊥
outside_at zero round out k less e = absurd (omega (arith, less))
outside_at (suc c) round out k less e = ⊎_elim
    (λ same. out.1 (e ∙ ap suc same))
    (λ before. outside_at c round out.0 k before e)
    (eq-or-lt_of_le (le_of_suc-le-suc less))

-- no other round is looked up
no_round : {A : Type 0} (rounds : List A) (none : A) (round : ℕ) → Outside (length rounds) round → at_round round rounds none ≡ none
no_round rounds none zero out = refl
no_round rounds none (suc k) out = go rounds k (λ i less e. outside_at (length rounds) (suc k) out i less (ap suc e))
  where
    go : (us : List _) (i : ℕ) → ((j : ℕ) → j < length us → i ≡ j → ⊥) → get_or us i none ≡ none
    go [] i out = refl
    go (u ∷ us) zero out = absurd (out 0 (omega arith) refl)
    go (u ∷ us) (suc i) out = go us i (λ j less e. out (suc j) (omega arith) (ap suc e))

-- ---- a round that is none of them

module _ (round : ℕ) (out : Outside last_round round) where
  pub no_words : (n : ℕ) → round_words n round ≡ 0
  unfolding round_words
  no_words n = no_round (word_table n) 0 round out

  module _ (b : Party) (work : List ℕ) where
    pub no_message : message b work round ≡ []
    unfolding message
    no_message = no_round (message_table b work) [] round out

    pub no_hearing : (incoming : List ℕ) → after_hearing b work round incoming ≡ work
    unfolding after_hearing
    no_hearing incoming = no_round (hearing_table b work incoming) work round out

    pub no_share : (incoming : List ℕ) → share_after b work round incoming ≡ None
    unfolding share_after
    no_share incoming = rw (ne_eqb round last_round out.1) refl
