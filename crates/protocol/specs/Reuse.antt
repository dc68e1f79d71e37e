-- The fear of document 01: one tape in two jobs. Word by word, the difference of the two first messages is the difference of the two
-- encodings of the doubled shares, whatever the tape. So whoever hears both learns how the shares differ; the tally is there against this.
use Rattle.std.specs.Prelude.{ℕ, ◌<◌, ◌≡◌, true, List, ◌++◌, get_or}
use Rattle.lists.specs.Tabulate.{tabulate}
use Rattle.field.specs.Width.{listed}
use Rattle.field.specs.Subtraction.{minus}
use Rattle.shares.specs.Side.{other}
use Rattle.shares.specs.Share.{constant_share}
use Rattle.tape.specs.Layout.{square_count}
use Rattle.protocol.specs.Tests.{doubled, low_bit}
use Rattle.protocol.specs.Products.{party, alternating}
use Rattle.protocol.specs.Squares.{bit_difference}
use Rattle.protocol.specs.Rounds.{round_words, message}

-- what round 1 masks, of a box's shares alone: the bit differences of the doubled shares' codes, then their low bits
unfoldable pub encoded : ℕ → ℕ → ℕ → ℕ → List ℕ
encoded n side x y =
    tabulate (square_count n) (bit_difference n side (doubled n x y))
    ++ tabulate 6 (alternating (λ t. constant_share side (low_bit n x y t)) (λ t. constant_share (other side) (low_bit n x y t)))

-- a box of that side with the shares x, y and then with x', y', both times on one tape; the tape is on the left alone
abbrev pub GivesAway : ℕ → ℕ → List ℕ → Type 0
GivesAway n side tape =
    listed n ≡ true → (x y x' y' : ℕ) (work work' : List ℕ) (j : ℕ) → j < round_words n 1
    → minus n (get_or (message (party n side x y tape) work 1) j 0) (get_or (message (party n side x' y' tape) work' 1) j 0)
    ≡ minus n (get_or (encoded n side x y) j 0) (get_or (encoded n side x' y') j 0)
