-- Round 1's message put into out from its last word down, and left off after so many words (document 02, P5).
use Rattle.std.specs.Prelude.{ℕ, ◌+◌, ◌-◌, List, length, get_or, drop}
use Rattle.std.proofs.lemmas.List.Edits.{sets}
use Rattle.shares.specs.Side.{other}
use Rattle.shares.specs.Share.{constant_share, masked}
use Rattle.tape.specs.Letters.{triple_left, triple_right}
use Rattle.protocol.specs.Products.{low_triple, alternating}

-- the last `count` of the words, each in the place that it has when all stand at the front; the rest of out as it was
unfoldable pub filled : List ℕ → List ℕ → ℕ → List ℕ
filled out words count = sets out (length words - count) (drop (length words - count) words)

-- word j of the six that open α · β, from the low bits of the tests: e and f by turns
abbrev pub low_word : ℕ → ℕ → List ℕ → List ℕ → ℕ → ℕ
low_word n side low triples =
    alternating
    (λ t. masked n (constant_share side (get_or low t 0)) (triple_left triples (low_triple n + t)))
    (λ t. masked n (constant_share (other side) (get_or low t 0)) (triple_right triples (low_triple n + t)))
