-- The shares of products, as the code closes them.
use Rattle.std.proofs.Common.{ℕ, ◌≡◌, ◌+◌, ◌*◌, ◌%◌, ◌<◌, List, sym, ◌∙◌, length, get_or, mul-one, mod-eq_of_lt}
use Rattle.std.proofs.lemmas.List.Edits.{sets}
use Rattle.lists.specs.Tabulate.{tabulate}
use Rattle.lists.proofs.Tabulate.{length_tabulate, tabulate_same}
use Rattle.lists.proofs.Sets.{sets_whole}
use Rattle.field.specs.Width.{modulus}
use Rattle.protocol.specs.Words.{Below}
use Rattle.protocol.specs.Tests.{exclusive}
use Rattle.protocol.specs.Products.{closed}
use Rattle.protocol.proofs.Ranges.{tabulated_below}
use Rattle.compare.proofs.Products.{closes_with}

-- a word for each test, below p
pub three_below : {p : ℕ} (words : List ℕ) (f : ℕ → ℕ) → words ≡ tabulate 3 f → ((t : ℕ) → f t < p) → Below p words
three_below words f e below = rw e (tabulated_below 3 f below)

-- a product for each test, in the place of its left factor
pub closed_three : (n side : ℕ) (u v triples same : List ℕ) (first : ℕ) (incoming : List ℕ) (from : ℕ) (words : List ℕ)
    → length u ≡ 3 → Below (modulus n) u → Below (modulus n) v
    → triples ≡ same
    → words ≡ sets u 0 (closes_with n side u v 1 triples first (length u) incoming from)
    → words ≡ tabulate 3 (λ t. closed n side (get_or u t 0) (get_or v t 0) same (first + t) incoming (from + t * 2))
closed_three n side u v triples same first incoming from words three left right et e =
    let stored : ℕ → ℕ = λ i. closed n side (get_or u i 0 % modulus n) (get_or v (i * 1) 0 % modulus n) same (first + i) incoming (from + i * 2) in
    rw (et, three) at e
    ∙ sets_whole u (tabulate 3 stored) (length_tabulate 3 stored ∙ sym three)
    ∙ tabulate_same 3 stored (λ t. closed n side (get_or u t 0) (get_or v t 0) same (first + t) incoming (from + t * 2))
    (λ i less. rw (mul-one i, mod-eq_of_lt (left.at i), mod-eq_of_lt (right.at i)))

-- and what is made of it
pub exclusive_of_three : (n : ℕ) (u v products words : List ℕ) (product : ℕ → ℕ) → products ≡ tabulate 3 product
    → words ≡ tabulate 3 (λ t. exclusive n ((get_or u t 0 + get_or v t 0) % modulus n) (get_or products t 0))
    → words ≡ tabulate 3 (λ t. exclusive n ((get_or u t 0 + get_or v t 0) % modulus n) (product t))
exclusive_of_three n u v products words product e es = rw e at es
