-- The laws of reading a word from the line.
use Prim.Native.Nat.{ℕ, ◌+◌, ◌%◌, ◌<◌}
use mathlib.Core.Path.{◌≡◌, refl, sym, ap, ◌∙◌}
use mathlib.Core.Bool.{Bool, true, false, ◌&&◌, cond}
use mathlib.Core.List.{List}
use native.Mathlib.Nat.{add-zero, add-mod_right}
use borrow.Author.Tests.{eqb-true, eq-eqb, le-leb}
use native.Mathlib.Numerals.{add-one}
use native.Mathlib.Omega.{arith}
use lib.Dec.{eqb, leb, ltb, leb-suc-suc}
use lib.ListN.{length, get_or}
use lib.Seq.{ext_get_or}
use Rattle.lists.proofs.Tests.{and_right}
use Rattle.lists.proofs.Tabulate.{length_tabulate, get_d_tabulate}
use Rattle.lists.proofs.Maps.{length_map, get_d_map}
use Rattle.field.specs.Width.{modulus}
use Rattle.shares.specs.Reading.{read, legible, read_words, respelled, delivered}
use Rattle.shares.specs.Deliveries.{Deliveries}
use Rattle.shares.specs.Share.{opened}

-- ---- one word

-- the reading changes nothing modulo p
read_mod : (n own word : ℕ) → (own + read n word) % modulus n ≡ (own + word) % modulus n
unfolding read
read_mod n own word = go (eqb word (modulus n)) refl
  where
    go : (t : Bool) → eqb word (modulus n) ≡ t → (own + cond t 0 word) % modulus n ≡ (own + word) % modulus n
    go true is_p = rw (eqb-true word (modulus n) is_p, add-zero own) (sym (add-mod_right own (modulus n)))
    go false other = refl

-- so the sum of both words is reduced at once
pub opened_sum : (n sent heard : ℕ) → opened n sent heard ≡ (sent + heard) % modulus n
unfolding opened
opened_sum n sent heard = read_mod n sent heard

-- a word that was read is opened as it was
pub opened_read : (n sent heard : ℕ) → opened n sent (read n heard) ≡ opened n sent heard
opened_read n sent heard = opened_sum n sent (read n heard) ∙ read_mod n sent heard ∙ sym (opened_sum n sent heard)

-- and it is taken just when it was
pub legible_read : (n word : ℕ) → legible n (read n word) ≡ legible n word
unfolding legible read
legible_read n word = go (eqb word (modulus n)) refl
  where
    go : (t : Bool) → eqb word (modulus n) ≡ t → leb (cond t 0 word) (modulus n) ≡ leb word (modulus n)
    go true is_p = le-leb 0 (modulus n) (omega arith) ∙ sym (le-leb word (modulus n) (omega (arith, eqb-true word (modulus n) is_p)))
    go false other = refl

-- in code: below p + 1
pub legible_below : (n word : ℕ) → ltb word (modulus n + 1) ≡ legible n word
unfolding legible
legible_below n word = rw (add-one (modulus n)) (leb-suc-suc word (modulus n))

read_zero : (n : ℕ) → read n 0 ≡ 0
unfolding read
read_zero n = either (eqb 0 (modulus n))
  where
    none : ℕ
    none = 0

    either : (t : Bool) → cond t none none ≡ none
    either true = refl
    either false = refl

-- the board's spelling is read as the word
read_respelled : (n : ℕ) (chosen : Bool) (word : ℕ) → read n (respelled n chosen word) ≡ read n word
unfolding read
read_respelled n chosen word = go (chosen && eqb word 0) refl
  where
    go : (t : Bool) → chosen && eqb word 0 ≡ t → read n (cond t (modulus n) word) ≡ read n word
    go true is_zero =
        let zero_word = eqb-true word 0 (and_right chosen (eqb word 0) is_zero) in
        rw (eq-eqb (modulus n) (modulus n) refl) (sym (ap (read n) zero_word ∙ read_zero n))
    go false other = refl

-- ---- a message

pub length_read : (n : ℕ) (words : List ℕ) → length (read_words n words) ≡ length words
length_read n words = length_map (read n) words

pub get_d_read : (n : ℕ) (words : List ℕ) (i : ℕ) → get_or (read_words n words) i 0 ≡ read n (get_or words i 0)
get_d_read n words i = get_d_map (read n) (read_zero n) words i

pub length_delivered : (n : ℕ) (chosen : ℕ → Bool) (words : List ℕ) → length (delivered n chosen words) ≡ length words
unfolding delivered
length_delivered n chosen words = length_tabulate (length words) (λ i. respelled n (chosen i) (get_or words i 0))

get_or_delivered : (n : ℕ) (chosen : ℕ → Bool) (words : List ℕ) (i : ℕ) → i < length (delivered n chosen words)
    → get_or (delivered n chosen words) i 0 ≡ respelled n (chosen i) (get_or words i 0)
unfolding delivered
get_or_delivered n chosen words i less =
    get_d_tabulate (length words) (λ k. respelled n (chosen k) (get_or words k 0)) i 0 (omega (arith, less, length_delivered n chosen words))

-- whichever zeros the board respells, the message is read as it was sent
pub delivered_read : (n : ℕ) (chosen : ℕ → Bool) (words : List ℕ) → read_words n (delivered n chosen words) ≡ read_words n words
delivered_read n chosen words =
    let lent = delivered n chosen words in
    ext_get_or 0 (read_words n lent) (read_words n words) (length_read n lent ∙ length_delivered n chosen words ∙ sym (length_read n words))
    (λ i less.
    get_d_read n lent i
    ∙ ap (read n) (get_or_delivered n chosen words i (omega (arith, less, length_read n lent)))
    ∙ read_respelled n (chosen i) (get_or words i 0)
    ∙ sym (get_d_read n words i))

-- spelled again where p stands, a reading is what was lent
spelled_back : (n word : ℕ) → respelled n (eqb word (modulus n)) (read n word) ≡ word
unfolding read
spelled_back n word = go (eqb word (modulus n)) refl
  where
    go : (t : Bool) → eqb word (modulus n) ≡ t → respelled n t (cond t 0 word) ≡ word
    go true is_p = sym (eqb-true word (modulus n) is_p)
    go false other = refl

any_spelling : (n : ℕ) (lent : List ℕ) → delivered n (λ i. eqb (get_or lent i 0) (modulus n)) (read_words n lent) ≡ lent
any_spelling n lent =
    let there : ℕ → Bool = λ i. eqb (get_or lent i 0) (modulus n) in
    ext_get_or 0 (delivered n there (read_words n lent)) lent (length_delivered n there (read_words n lent) ∙ length_read n lent)
    (λ i less.
    get_or_delivered n there (read_words n lent) i less
    ∙ ap (respelled n (there i)) (get_d_read n lent i)
    ∙ spelled_back n (get_or lent i 0))

pub deliveries : Deliveries
deliveries = record { same_reading = delivered_read; any_spelling = any_spelling }
