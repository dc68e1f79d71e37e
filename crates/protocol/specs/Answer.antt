-- Round 5 (document 02, P7): the three half tests H, U and Z are opened together under the masks of the tape's last group, and the answer share is
-- worked out from them. Here v are the box's shares of H, U and Z.
use Rattle.std.specs.Prelude.{ℕ, ◌+◌, ◌*◌, ◌%◌, List, get_or}
use Rattle.field.specs.Width.{modulus}
use Rattle.field.specs.Subtraction.{minus}
use Rattle.shares.specs.Share.{constant_share, masked, opened, product_share, threefold_share}
use Rattle.tape.specs.Letters.{last_letter}

-- the word that opens half test k
unfoldable pub half_opening : ℕ → (ℕ → ℕ) → List ℕ → ℕ → ℕ
half_opening n v triples k = masked n (v k) (last_letter n triples k)

-- e = H − a, f = U − b, g = Z − c
unfoldable pub half_opened : ℕ → (ℕ → ℕ) → List ℕ → List ℕ → ℕ → ℕ
half_opened n v triples incoming k = opened n (half_opening n v triples k) (get_or incoming k 0)

-- the share of 1 − U − Z + H·U + H·Z + U·Z − 2·H·U·Z; m 0 to m 6 are the box's a, b, c, ab, ac, bc, abc
unfoldable pub answer_from : ℕ → ℕ → (ℕ → ℕ) → List ℕ → List ℕ → ℕ
answer_from n side v triples incoming =
    let e = half_opened n v triples incoming 0 in
    let f = half_opened n v triples incoming 1 in
    let g = half_opened n v triples incoming 2 in
    let m = last_letter n triples in
    let hu = product_share n side e f (m 0) (m 1) (m 3) in
    let hz = product_share n side e g (m 0) (m 2) (m 4) in
    let uz = product_share n side f g (m 1) (m 2) (m 5) in
    let huz = threefold_share n side e f g (m 0) (m 1) (m 2) (m 3) (m 4) (m 5) (m 6) in
    minus n ((constant_share side 1 + hu + hz + uz) % modulus n) ((v 1 + v 2 + 2 * huz) % modulus n)
