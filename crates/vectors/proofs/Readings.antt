-- The laws of numbers read one after another.
use Rattle.std.proofs.Common.{◌≡◌, ℕ, zero, suc, ◌+◌, ◌-◌, ◌<◌, ◌≤◌, Bool, true, false, cond, List, [], ◌∷◌, ◌++◌, length, get_or, take, drop, Option, Some, None, eqb, not, ⊎_elim, refl, sym, ap, ◌∙◌, arith}
use mathlib.Core.List.{append-nil}
use native.Mathlib.Numerals.{add-one}
use mathlib.Core.Bool.{false≢true}
use borrow.Author.Tests.{eq-eqb, ne_eqb}
use lib.ListN.{set, drop_of_length-le}
use Rattle.std.proofs.lemmas.List.{set-get_or, length-take-le}
use lib.Seq.{sets, length-sets, drop-cons}
use Rattle.std.specs.Char.{is_ascii_digit}
use Rattle.std.specs.List.{position, position_or_len}
use Rattle.std.specs.Option.{is_some, option_and_then, option_map, option_map_or, unwrap_or}
use Rattle.std.proofs.lemmas.Bool.{cases_lt, lt-ltb, le-ltb}
use Rattle.std.proofs.lemmas.List.Sums.{prefix_len-le-length}
use Rattle.lists.proofs.Sets.{sets_front}
use Rattle.lines.specs.Reading.{is_number, value_of}
use Rattle.vectors.specs.Numbers.{next_at, numbers_from, read_to, spelled}

-- a reading that was not refused gives a text
pub passes : {A B : Type 0} (f : A → B) (o : Option A) → is_some o ≡ is_some (option_map f o)
passes f None = refl
passes f (Some x) = refl

-- ---- one number

-- a place that was found, or the length
place_or_length : (p : ℕ → Bool) (s : List ℕ) → unwrap_or (position p s) (length s) ≡ position_or_len p s
place_or_length p s =
    let place : ℕ = position_or_len p s in
    let most = prefix_len-le-length (λ (x : ℕ). not (p x)) s in
    ⊎_elim
    (λ found. rw (lt-ltb place (length s) found))
    (λ none. rw (le-ltb place (length s) none) (omega (arith, most, none)))
    (cases_lt place (length s))

place_is : (p : ℕ → Bool) (s : List ℕ) (o : Option ℕ) → position p s ≡ o → position_or_len p s ≡ unwrap_or o (length s)
place_is p s o e = sym (place_or_length p s) ∙ ap (λ (q : Option ℕ). unwrap_or q (length s)) e

-- no digit is left
pub next_none : (text : List ℕ) → position is_ascii_digit text ≡ None → next_at text ≡ None
unfolding next_at is_number
next_none text e =
    rw (place_is is_ascii_digit text None e, drop_of_length-le text {i = length text} (omega arith))

with_rest : (t : Bool) (value : ℕ) (rest : List ℕ)
    → option_map {U = ℕ × List ℕ} (λ v. (v, rest)) (cond t (Some value) None) ≡ cond t (Some (value, rest)) None
with_rest true value rest = refl
with_rest false value rest = refl

-- the digits end before `rest`, and what was read of them is `value`
pub next_read : (text digits part rest : List ℕ) (first end : ℕ) (value : Option ℕ) → position is_ascii_digit text ≡ Some first
    → digits ≡ drop first text → end ≡ unwrap_or (position (λ b. not (is_ascii_digit b)) digits) (length digits)
    → part ≡ take end digits → rest ≡ drop end digits → value ≡ cond (is_number part) (Some (value_of part)) None
    → option_map {U = ℕ × List ℕ} (λ v. (v, rest)) value ≡ next_at text
unfolding next_at
next_read text digits part rest first end value found begun ended front back read =
    let count = ended ∙ place_or_length (λ b. not (is_ascii_digit b)) digits in
    rw (place_is is_ascii_digit text (Some first) found, ← begun, ← count, ← front, ← back, read) (with_rest (is_number part) (value_of part) rest)

-- ---- numbers one after another

-- there is no next one
module _ (text : List ℕ) (e : next_at text ≡ None) where
  pub spelled_none : (words : List ℕ) (i : ℕ) → i < length words → spelled text (drop i words) ≡ None
  unfolding spelled
  spelled_none words i less = rw (drop-cons words i 0 less, e)

  pub fill_none : (n i : ℕ) (into : List ℕ) → i < n → set into i (get_or into i 0) ≡ sets into i (numbers_from (n - i) text)
  unfolding numbers_from
  fill_none n i into less = let more : n - i ≡ suc (n - (i + 1)) = omega arith in rw (more, e) (set-get_or into i 0)

  pub read_none : (n i : ℕ) → i < n → read_to (n - i) text ≡ None
  unfolding read_to
  read_none n i less = let more : n - i ≡ suc (n - (i + 1)) = omega arith in rw (more, e)

-- there is
module _ (text rest : List ℕ) (x : ℕ) (e : Some (x, rest) ≡ next_at text) where
  pub spelled_next : (words : List ℕ) (i : ℕ) → i < length words → x ≡ get_or words i 0
      → spelled text (drop i words) ≡ spelled rest (drop (i + 1) words)
  unfolding spelled
  spelled_next words i less same = rw (add-one i, drop-cons words i 0 less, ← e, eq-eqb _ _ same)

  pub spelled_other : (words : List ℕ) (i : ℕ) → i < length words → (x ≡ get_or words i 0 → ⊥) → spelled text (drop i words) ≡ None
  unfolding spelled
  spelled_other words i less other = rw (drop-cons words i 0 less, ← e, ne_eqb _ _ other)

  pub fill_next : (n i : ℕ) (into : List ℕ) → i < n
      → sets into i (numbers_from (n - i) text) ≡ sets (set into i x) (i + 1) (numbers_from (n - (i + 1)) rest)
  unfolding numbers_from
  fill_next n i into less = let more : n - i ≡ suc (n - (i + 1)) = omega arith in rw (more, ← e, add-one i)

  pub read_next : (n i : ℕ) → i < n → read_to (n - i) text ≡ read_to (n - (i + 1)) rest
  unfolding read_to
  read_next n i less = let more : n - i ≡ suc (n - (i + 1)) = omega arith in rw (more, ← e)

-- nothing is left
pub spelled_end : (text words : List ℕ) (i : ℕ) → length words ≤ i → spelled text (drop i words) ≡ Some text
unfolding spelled
spelled_end text words i le = rw (drop_of_length-le words le)

pub fill_end : (text into : List ℕ) (n i : ℕ) → n ≤ i → sets into i (numbers_from (n - i) text) ≡ into
unfolding numbers_from
fill_end text into n i end = let none : n - i ≡ 0 = omega arith in rw none

pub read_end : (text : List ℕ) (n i : ℕ) → n ≤ i → read_to (n - i) text ≡ Some text
unfolding read_to
read_end text n i end = let none : n - i ≡ 0 = omega arith in rw none

-- ---- a slice that was filled

read_step : (n : ℕ) (x : Option (ℕ × List ℕ)) → ((rest : List ℕ) → is_some (read_to n rest) ≡ true → length (numbers_from n rest) ≡ n)
    → is_some (option_and_then (λ y. read_to n y.1) x) ≡ true → length (option_map_or (λ y. y.0 ∷ numbers_from n y.1) x []) ≡ suc n
read_step n None all none = absurd (false≢true none)
read_step n (Some y) all some = ap suc (all y.1 some)

pub read_all : (n : ℕ) (text : List ℕ) → is_some (read_to n text) ≡ true → length (numbers_from n text) ≡ n
unfolding read_to numbers_from
read_all zero text ok = refl
read_all (suc n) text ok = read_step n (next_at text) (read_all n) ok

-- read to its end, it holds the numbers
pub filled : (text into into' rest : List ℕ) → Some rest ≡ read_to (length into) text → into' ≡ sets into 0 (numbers_from (length into) text)
    → into' ≡ numbers_from (length into) text
filled text into into' rest is here =
    let vs = numbers_from (length into) text in
    let long : length vs ≡ length into = read_all (length into) text (sym (ap is_some is)) in
    here ∙ sets_front into vs (omega arith) ∙ ap (λ (l : List ℕ). vs ++ l) (drop_of_length-le into {i = length vs} (omega arith)) ∙ append-nil vs

-- filled at its front, it holds them there
pub filled_front : (text room into' rest : List ℕ) (n : ℕ) → n ≤ length room → Some rest ≡ read_to (length (take n room)) text
    → into' ≡ sets (take n room) 0 (numbers_from (length (take n room)) text) → into' ++ drop n room ≡ sets room 0 (numbers_from n text)
filled_front text room into' rest n fits is here =
    let vs = numbers_from n text in
    let count : length (take n room) ≡ n = length-take-le n room fits in
    let front : into' ≡ vs = filled text (take n room) into' rest is here ∙ ap (λ (k : ℕ). numbers_from k text) count in
    let long : length (numbers_from n text) ≡ n = ap length (sym front) ∙ ap length here ∙ length-sets (take n room) 0 (numbers_from (length (take n room)) text) ∙ count in
    ap (λ (l : List ℕ). l ++ drop n room) front
    ∙ ap (λ (k : ℕ). vs ++ drop k room) (sym long)
    ∙ sym (sets_front room vs (omega (arith, long, fits)))

-- ---- words after words

then_word : (t : Bool) (c d : Option (List ℕ)) (b : List ℕ) → d ≡ option_and_then (λ r. spelled r b) c
    → cond t d None ≡ option_and_then (λ r. spelled r b) (cond t c None)
then_word true c d b e = e
then_word false c d b e = refl

spelled_step : (x : Option (ℕ × List ℕ)) (w : ℕ) (a b : List ℕ)
    → ((rest : List ℕ) → spelled rest (a ++ b) ≡ option_and_then (λ r. spelled r b) (spelled rest a))
    → option_and_then (λ y. cond (eqb y.0 w) (spelled y.1 (a ++ b)) None) x
    ≡ option_and_then (λ r. spelled r b) (option_and_then (λ y. cond (eqb y.0 w) (spelled y.1 a) None) x)
spelled_step None w a b e = refl
spelled_step (Some y) w a b e = then_word (eqb y.0 w) (spelled y.1 a) _ b (e y.1)

pub spelled_append : (text a b : List ℕ) → spelled text (a ++ b) ≡ option_and_then (λ rest. spelled rest b) (spelled text a)
unfolding spelled
spelled_append text [] b = refl
spelled_append text (w ∷ a) b = spelled_step (next_at text) w a b (λ rest. spelled_append rest a b)

pub ruleset same_words = (spelled_none, spelled_next, spelled_other, spelled_end)

pub ruleset filling = (fill_none, read_none, fill_next, read_next, fill_end, read_end)
