-- The five rounds, by document 01 and document 02's P7: what a box sends in each, and what it holds after hearing each.
use Rattle.std.specs.Prelude.{ℕ, suc, ◌+◌, ◌*◌, ◌%◌, cond, Option, Some, None, List, [], ◌∷◌, ◌++◌, eqb, get_or}
use Rattle.std.proofs.lemmas.List.Edits.{sets}
use Rattle.lists.specs.Tabulate.{tabulate}
use Rattle.field.specs.Width.{modulus}
use Rattle.shares.specs.Side.{other}
use Rattle.shares.specs.Share.{constant_share}
use Rattle.tape.specs.Layout.{section, square_count, group_count}
use Rattle.tape.specs.Letters.{group_inverse}
use Rattle.protocol.specs.Tests.{doubled, low_bit, complement, exclusive}
use Rattle.protocol.specs.Work.{sum_slot, wrap_slot, half_slot, held}
use Rattle.protocol.specs.Products.{Party, Products, low_triple, wrap_triple, triples_of, openings, closing}
use Rattle.protocol.specs.Squares.{bit_difference, square_opening, match_count}
use Rattle.protocol.specs.Levels.{wrap_share}
use Rattle.protocol.specs.Answer.{half_opening, answer_from}

-- ---- round 1: the bit differences of every test, level and bit; then α · β of each test

abbrev pub squares_of : Party → List ℕ
squares_of b = section b.n 0 b.tape

abbrev pub powers_of : Party → List ℕ
powers_of b = section b.n 1 b.tape

-- the doubled shares of the three tests
abbrev pub doubled_of : Party → ℕ → ℕ
doubled_of b = doubled b.n b.x b.y

unfoldable pub square_word : Party → ℕ → ℕ
square_word b j = square_opening b.n (bit_difference b.n b.side (doubled_of b) j) (squares_of b) j

-- α · β: box 1 alone has α, box 2 alone β
unfoldable pub low_products : Party → Products
low_products b =
    record {
      first = low_triple b.n;
      count = 3;
      left = λ t. constant_share b.side (low_bit b.n b.x b.y t);
      right = λ t. constant_share (other b.side) (low_bit b.n b.x b.y t);
    }

-- the share of S
unfoldable pub low_sum : Party → List ℕ → ℕ → ℕ
low_sum b incoming test =
    exclusive b.n (low_bit b.n b.x b.y test)
    (closing b (low_products b) incoming (square_count b.n) test)

-- ---- round 2: A · w of every test and level

unfoldable pub level_products : Party → List ℕ → Products
level_products b work =
    record {
      first = 0;
      count = group_count b.n;
      left = λ g. held b.n work g;
      right = λ g. group_inverse b.n (powers_of b) g;
    }

-- ---- round 3 opens d of every test and level
-- ---- round 4: S · T of each test

unfoldable pub wrap_products : Party → List ℕ → Products
wrap_products b work =
    record {
      first = wrap_triple b.n;
      count = 3;
      left = λ t. held b.n work (sum_slot b.n t);
      right = λ t. held b.n work (wrap_slot b.n t);
    }

-- the share of the half test: 1 − (S + T − 2·S·T)
unfoldable pub half_share : Party → List ℕ → List ℕ → ℕ → ℕ
half_share b work incoming test =
    complement b.n b.side
    (exclusive b.n
    ((held b.n work (sum_slot b.n test) + held b.n work (wrap_slot b.n test)) % modulus b.n)
    (closing b (wrap_products b work) incoming 0 test))

-- ---- round 5: H, U and Z together

-- the box's shares of them
abbrev pub halves_held : Party → List ℕ → ℕ → ℕ
halves_held b work k = held b.n work (half_slot b.n k)

unfoldable pub half_word : Party → List ℕ → ℕ → ℕ
half_word b work k = half_opening b.n (halves_held b work) (triples_of b) k

unfoldable pub answer_share : Party → List ℕ → List ℕ → ℕ
answer_share b work incoming = answer_from b.n b.side (halves_held b work) (triples_of b) incoming

-- ---- by the round's number; any other round sends nothing and changes nothing

-- how many rounds come before the last one
abbrev pub earlier_rounds : ℕ
earlier_rounds = 4

abbrev pub last_round : ℕ
last_round = suc earlier_rounds

abbrev pub at_round : {A : Type 0} → ℕ → List A → A → A
at_round round rounds none = get_or (none ∷ rounds) round none

-- how many words each round opens
abbrev pub word_table : ℕ → List ℕ
word_table n = (3 * (n * n) + 6) ∷ (6 * n) ∷ (3 * n) ∷ 6 ∷ 3 ∷ []

unfoldable pub round_words : ℕ → ℕ → ℕ
round_words n round = at_round round (word_table n) 0

-- the words that a box sends in each
abbrev pub message_table : Party → List ℕ → List (List ℕ)
message_table b work =
    (tabulate (square_count b.n) (square_word b) ++ openings b (low_products b))
    ∷ openings b (level_products b work)
    ∷ tabulate (group_count b.n) (λ g. held b.n work g)
    ∷ openings b (wrap_products b work)
    ∷ tabulate 3 (half_word b work)
    ∷ []

unfoldable pub message : Party → List ℕ → ℕ → List ℕ
message b work round = at_round round (message_table b work) []

-- work after each was heard: the named words replaced, all others as they were
abbrev pub hearing_table : Party → List ℕ → List ℕ → List (List ℕ)
hearing_table b work incoming =
    sets (sets work 0 (tabulate (group_count b.n) (match_count b.n b.side (doubled_of b) (squares_of b) incoming))) (sum_slot b.n 0) (tabulate 3 (low_sum b incoming))
    ∷ sets work 0 (tabulate (group_count b.n) (closing b (level_products b work) incoming 0))
    ∷ sets work (wrap_slot b.n 0) (tabulate 3 (wrap_share b.n b.side (powers_of b) work incoming))
    ∷ sets work (half_slot b.n 0) (tabulate 3 (half_share b work incoming))
    ∷ work
    ∷ []

unfoldable pub after_hearing : Party → List ℕ → ℕ → List ℕ → List ℕ
after_hearing b work round incoming = at_round round (hearing_table b work incoming) work

-- what comes back: the answer share after the last round, and nothing before
unfoldable pub share_after : Party → List ℕ → ℕ → List ℕ → Option ℕ
share_after b work round incoming = cond (eqb round last_round) (Some (answer_share b work incoming)) None
