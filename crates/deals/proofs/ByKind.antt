-- A group by its kind: the last group, or a square or a triple, which are one product of two or three words.
use Prim.Native.Nat.{ℕ, zero, suc, ◌<◌}
use mathlib.Core.Path.{◌≡◌, refl}
use mathlib.Core.List.{List, [], ◌∷◌}
use mathlib.Core.Logic.{◌⊎◌, inl, inr}
use native.Mathlib.Omega.{arith}
use lib.ListN.{get_or}
use Rattle.lists.specs.Tabulate.{tabulate}
use Rattle.draws.proofs.Draws.{draw_after}
use Rattle.deals.specs.declared.kinds.Kind.{Kind}
use Rattle.deals.specs.declared.kinds.Kind.TheVariants.{Square, Power, Triple, Last}
use Rattle.deals.specs.Groups.{group_length, total, group_word}
use Rattle.deals.specs.Steps.{drawn_words, product_words, threefold_words}
use Rattle.deals.specs.Kinds.{number_of}

pub few : (kind : Kind) → number_of kind < 4
few Square = omega arith
few Power = omega arith
few Triple = omega arith
few Last = omega arith

-- each kind's number is its place in the order of the body
pub kind_at : (i : ℕ) → i < 4 → number_of (get_or (Square ∷ Power ∷ Triple ∷ Last ∷ []) i Square) ≡ i
kind_at zero l = refl
kind_at (suc zero) l = refl
kind_at (suc (suc zero)) l = refl
kind_at (suc (suc (suc zero))) l = refl
kind_at (suc (suc (suc (suc i)))) l = absurd (omega (arith, l))

-- what both boxes' words of a group are
abbrev pub Words : ℕ → Kind → ℕ → List ℕ → List ℕ → Type 0
Words n kind v w1 w2 =
    (w1 ≡ tabulate (group_length n (number_of kind)) (group_word n 1 (number_of kind) v))
    × (w2 ≡ tabulate (group_length n (number_of kind)) (group_word n 2 (number_of kind) v))

-- box 2's draws come after box 1's
square_words_lem : (n v : ℕ) → product_words n v 2 ≡ tabulate 2 (group_word n 2 0 v)
unfolding group_word total
square_words_lem n v = rw (draw_after v 2 1) refl

triple_words : (n v : ℕ) → product_words n v 3 ≡ tabulate 3 (group_word n 2 2 v)
unfolding group_word total
triple_words n v = rw (draw_after v 3 1, draw_after v 3 2) refl

last_words : (n v : ℕ) → threefold_words n v ≡ tabulate 7 (group_word n 2 3 v)
unfolding group_word total
last_words n v = rw (draw_after v 7 1, draw_after v 7 2, draw_after v 7 3) refl

product_is : (n : ℕ) (kind : Kind) (v : ℕ) → (kind ≡ Square) ⊎ (kind ≡ Triple) → let count = group_length n (number_of kind) in
    Words n kind v (drawn_words n v count) (product_words n v count)
unfolding group_word
product_is n kind v (inl e) = rw e (refl, square_words_lem n v)
product_is n kind v (inr e) = rw e (refl, triple_words n v)

pub product_group : (n : ℕ) (kind : Kind) (v count : ℕ) (w1 w2 : List ℕ) → (kind ≡ Square) ⊎ (kind ≡ Triple) → count ≡ group_length n (number_of kind)
    → w1 ≡ drawn_words n v count → w2 ≡ product_words n v count → Words n kind v w1 w2
product_group n kind v count w1 w2 either e box1 box2 = rw (box1, box2, e) (product_is n kind v either)

pub last_group : (n : ℕ) (kind : Kind) (v : ℕ) (w1 w2 : List ℕ) → kind ≡ Last → w1 ≡ drawn_words n v 7 → w2 ≡ threefold_words n v → Words n kind v w1 w2
unfolding group_word
last_group n kind v w1 w2 e box1 box2 = rw (e, box1, box2) (refl, last_words n v)
