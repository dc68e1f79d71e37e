-- Whether every place of out holds what it must, asked of three parts: the places before the filled ones, these, and those after them.
use Prim.Native.Nat.{ℕ, zero, suc, ◌+◌, ◌-◌, ◌≤◌}
use mathlib.Core.Path.{◌≡◌, refl, sym, ap, ◌∙◌}
use mathlib.Core.Bool.{Bool, ◌&&◌, and-false}
use mathlib.Core.List.{List, [], ◌∷◌}
use native.Mathlib.Omega.{arith}
use borrow.Author.Tests.{le-leb, lt-leb, le-ltb, lt-ltb}
use lib.Dec.{leb, eqb}
use lib.ListN.{length, get_or, take, drop, length-drop}
use lib.Pointwise.{pointwise}
use lib.Seq.{length-take-le, get_or-take, get_or-drop}
use Rattle.std.proofs.Math.Bool.{and-true, and_assoc}
use Rattle.std.proofs.lemmas.List.{take_rest}
use Rattle.std.specs.List.{list_all}
use Rattle.lists.specs.Every.{every}
use Rattle.lists.proofs.Every.{every_same}
use Rattle.fills.specs.Due.{filler, due_at, as_due}

-- ---- a test at every index, by parts

every_first : (n : ℕ) (f : ℕ → Bool) → every (suc n) f ≡ (f 0 && every n (λ i. f (suc i)))
every_first zero f = sym (and-true (f 0))
every_first (suc n) f = rw (every_first n f) (and_assoc (f 0) (every n (λ i. f (suc i))) (f (suc n)))

every_split : (a b : ℕ) (f : ℕ → Bool) → every (a + b) f ≡ (every a f && every b (λ i. f (a + i)))
every_split a zero f =
    let none : a + 0 ≡ a = omega arith in
    rw none (sym (and-true (every a f)))
every_split a (suc b) f =
    let more : a + suc b ≡ suc (a + b) = omega arith in
    rw (more, every_split a b f) (and_assoc (every a f) (every b (λ i. f (a + i))) (f (a + b)))

of_list : (test : ℕ → Bool) (xs : List ℕ) → list_all test xs ≡ every (length xs) (λ i. test (get_or xs i 0))
of_list test [] = refl
of_list test (x ∷ xs) = rw (of_list test xs) (sym (every_first (length xs) (λ i. test (get_or (x ∷ xs) i 0))))

of_lists : (xs ys : List ℕ) → length xs ≡ length ys → pointwise eqb xs ys ≡ every (length xs) (λ i. eqb (get_or xs i 0) (get_or ys i 0))
of_lists [] [] same = refl
of_lists [] (y ∷ ys) same = absurd (omega (arith, same))
of_lists (x ∷ xs) [] same = absurd (omega (arith, same))
of_lists (x ∷ xs) (y ∷ ys) same =
    rw (of_lists xs ys (omega (arith, same))) (sym (every_first (length xs) (λ i. eqb (get_or (x ∷ xs) i 0) (get_or (y ∷ ys) i 0))))

-- ---- the three parts

abbrev pub is_filler : ℕ → Bool
is_filler word = eqb word filler

module _ (out words : List ℕ) (count : ℕ) (most : count ≤ length words) (room : length words ≤ length out) where
  abbrev pub from : ℕ
  from = length words - count

  -- the message's places
  abbrev pub places : List ℕ
  places = take (length words) out

  abbrev due : ℕ → Bool
  due j = eqb (get_or out j 0) (due_at words count j)

  places_length : length places ≡ length words
  places_length = length-take-le (length words) out room

  before : list_all is_filler (take from places) ≡ every from due
  unfolding due_at
  before =
      let long : length (take from places) ≡ from = length-take-le from places (omega (arith, places_length)) in
      of_list is_filler (take from places)
      ∙ ap (λ k. every k (λ i. is_filler (get_or (take from places) i 0))) long
      ∙ every_same from (λ i. is_filler (get_or (take from places) i 0)) due
      (λ i less. rw (get_or-take from places i 0 less, get_or-take (length words) out i 0 (omega (arith, less)), lt-leb from i less) refl)

  filled : pointwise eqb (drop from places) (drop from words) ≡ every count (λ i. due (from + i))
  unfolding due_at
  filled =
      let long : length (drop from places) ≡ count = omega (arith, length-drop from places, places_length) in
      of_lists (drop from places) (drop from words) (omega (arith, long, length-drop from words))
      ∙ ap (λ k. every k (λ i. eqb (get_or (drop from places) i 0) (get_or (drop from words) i 0))) long
      ∙ every_same count (λ i. eqb (get_or (drop from places) i 0) (get_or (drop from words) i 0)) (λ i. due (from + i))
      (λ i less.
      rw (
        get_or-drop from places i 0,
        get_or-take (length words) out (from + i) 0 (omega (arith, less)),
        get_or-drop from words i 0,
        le-leb from (from + i) (omega arith),
        lt-ltb (from + i) (length words) (omega (arith, less)),
      )
      refl)

  after : list_all is_filler (drop (length words) out) ≡ every (length out - length words) (λ i. due (length words + i))
  unfolding due_at
  after =
      let long : length (drop (length words) out) ≡ length out - length words = length-drop (length words) out in
      of_list is_filler (drop (length words) out)
      ∙ ap (λ k. every k (λ i. is_filler (get_or (drop (length words) out) i 0))) long
      ∙ every_same (length out - length words) (λ i. is_filler (get_or (drop (length words) out) i 0)) (λ i. due (length words + i))
      (λ i less.
      rw
      (get_or-drop (length words) out i 0, le-ltb (length words + i) (length words) (omega arith), and-false (leb from (length words + i)))
      refl)

  pub parts_due : as_due out words count
      ≡ (list_all is_filler (take from places)
      && pointwise eqb (drop from places) (take (length words - from) (drop from words))
      && list_all is_filler (drop (length words) out))
  unfolding as_due
  parts_due =
      let beyond = length out - length words in
      let all : length out ≡ length words + beyond = omega arith in
      let whole : length words ≡ from + count = omega arith in
      rw (take_rest words from, before, filled, after)
      (ap (λ k. every k due) all
      ∙ every_split (length words) beyond due
      ∙ ap (λ b. b && every beyond (λ i. due (length words + i))) (ap (λ k. every k due) whole ∙ every_split from count due))
