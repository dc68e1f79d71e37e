-- A round's message has as many words as the table says, and hearing keeps work's length.
use Prim.Native.Nat.{ℕ, suc, ◌+◌, ◌*◌, ◌≤◌}
use mathlib.Core.Path.{◌≡◌, refl, ap, ap₂, ◌∙◌}
use mathlib.Core.List.{List, []}
use mathlib.Core.Bool.{true}
use native.Mathlib.Nat.{mul-le-mul_right}
use native.Mathlib.Omega.{arith}
use lib.ListN.{length, length-append}
use lib.Seq.{length-sets}
use Rattle.lists.specs.Tabulate.{tabulate, sum}
use Rattle.lists.proofs.Tabulate.{length_tabulate}
use Rattle.field.specs.Width.{listed}
use Rattle.field.proofs.Widths.{bounds}
use Rattle.tape.proofs.Sizes.{small}
use Rattle.tape.specs.Layout.{square_count, group_count}
use Rattle.protocol.proofs.ByRound.{at_each, at_both}
use Rattle.protocol.specs.Work.{held}
use Rattle.protocol.specs.Products.{Party, Products, open_left, open_right, openings, alternating}
use Rattle.protocol.specs.Rounds.{square_word, low_products, level_products, wrap_products, half_word, last_round, word_table, round_words, message_table, message, hearing_table, after_hearing}

-- no round has more words than the first
pub most_words : (n round : ℕ) → listed n ≡ true → round_words n round ≤ round_words n 1
unfolding round_words
most_words n round l =
    let least : 3 ≤ n = (bounds l).least in
    let square = mul-le-mul_right n least in
    at_each (λ (k : ℕ). k ≤ 3 * (n * n) + 6) (word_table n) 0
    (omega arith, (omega (arith, square), (omega (arith, square), (omega (arith, square), (omega (arith, square), tt)))))
    (omega arith) round

first_words : (n : ℕ) → round_words n 1 ≡ 3 * (n * n) + 6
unfolding round_words
first_words n = refl

pub words_most : (n round : ℕ) → listed n ≡ true → round_words n round ≤ 2889
words_most n round l = omega (arith, most_words n round l, first_words n, small l)

-- document 02's figure: the words that a box sends in a job
pub job_words : (n : ℕ) → sum last_round (λ r. round_words n (suc r)) ≡ 3 * (n * n) + 9 * n + 15
unfolding round_words
job_words n = omega arith

openings_length : (q : Party) (ps : Products) → length (openings q ps) ≡ ps.count * 2
unfolding openings
openings_length q ps = length_tabulate (ps.count * 2) (alternating (open_left q ps) (open_right q ps))

pub message_length : (q : Party) (work : List ℕ) (round : ℕ) → length (message q work round) ≡ round_words q.n round
unfolding message round_words low_products level_products wrap_products
message_length q work round =
    at_both (λ (l : List ℕ) (k : ℕ). length l ≡ k) (message_table q work) (word_table q.n) [] 0 (
      length-append (tabulate (square_count q.n) (square_word q)) (openings q (low_products q))
          ∙ ap₂ ◌+◌ (length_tabulate (square_count q.n) (square_word q)) (openings_length q (low_products q)),
      (
        openings_length q (level_products q work) ∙ omega arith,
        (
          length_tabulate (group_count q.n) (λ g. held q.n work g),
          (
            openings_length q (wrap_products q work),
            (length_tabulate 3 (half_word q work), tt),
          ),
        ),
      ),
    )
    refl round

-- hearing keeps work's length
pub after_length : (q : Party) (work incoming : List ℕ) (round : ℕ) → length (after_hearing q work round incoming) ≡ length work
unfolding after_hearing
after_length q work incoming round =
    at_each (λ (l : List ℕ). length l ≡ length work) (hearing_table q work incoming) work
    (simp length-sets, (simp length-sets, (simp length-sets, (simp length-sets, (refl, tt))))) refl round
