-- The words after the body, compared whole with a trailer.
use Rattle.std.proofs.Common.{◌≡◌, ℕ, ◌+◌, ◌-◌, ◌∙◌, Bool, refl, eqb, List, length, get_or, take, drop, ap, length-drop, arith, eqb-true, eq-eqb}
use Rattle.std.specs.Bool.{Decides}
use Rattle.std.specs.Cmp.{both_ways}
use Rattle.std.specs.Cmp.Lexicographic.{pointwise}
use Rattle.std.proofs.lemmas.Bool.Decides.{Decides-eqb}
use Rattle.std.proofs.lemmas.List.{take_all}
use Rattle.std.proofs.lemmas.Slice.Eq.{slice_eq-Decides}
use lib.Seq.{ext_get_or, get_or-drop}
use Rattle.lists.specs.Every.{every}
use Rattle.lists.proofs.Every.{every_intro, every_at, every_same}
use Rattle.tape.specs.Layout.{body_length, tape_length, trailer, trailer_length}
use Rattle.tape.specs.Order.{trailer_fits}

-- lists of one length are equal where each pair of their words is
pointwise_every : (xs ys : List ℕ) → length xs ≡ length ys → pointwise eqb xs ys ≡ every (length ys) (λ k. eqb (get_or xs k 0) (get_or ys k 0))
pointwise_every xs ys long =
    let same : ℕ → Bool = λ k. eqb (get_or xs k 0) (get_or ys k 0) in
    let decides : Decides (pointwise eqb xs ys) (xs ≡ ys) = slice_eq-Decides Decides-eqb xs ys _ refl in
    both_ways (pointwise eqb xs ys) (every (length ys) same)
    (λ equal. every_intro (length ys) same (λ k l. eq-eqb _ _ (ap (λ (zs : List ℕ). get_or zs k 0) (decides.0 equal))))
    (λ all. decides.1 (ext_get_or 0 xs ys long (λ k l. eqb-true _ _ (every_at (length ys) same all k (omega (arith, long, l))))))

pub trailer_at_end : (n pair side number body : ℕ) (tape : List ℕ) → body ≡ body_length n → length tape ≡ tape_length n
    → pointwise eqb (take (length tape - body) (drop body tape)) (trailer n pair side number) ≡ trailer_fits n pair side number tape
unfolding trailer_fits
trailer_at_end n pair side number body tape e whole =
    let words = drop body tape in
    let tail = trailer n pair side number in
    let count : length words ≡ length tape - body = length-drop body tape in
    let long : length words ≡ length tail = omega (arith, count, e, whole) in
    let all : take (length tape - body) words ≡ words = take_all (length tape - body) words (omega (arith, count)) in
    ap (λ (xs : List ℕ). pointwise eqb xs tail) all
    ∙ pointwise_every words tail long
    ∙ every_same trailer_length (λ k. eqb (get_or words k 0) (get_or tail k 0)) (λ k. eqb (get_or tape (body_length n + k) 0) (get_or tail k 0))
    (λ k l. ap (λ (w : ℕ). eqb w (get_or tail k 0)) (get_or-drop body tape k 0 ∙ ap (λ (b : ℕ). get_or tape (b + k) 0) e))
