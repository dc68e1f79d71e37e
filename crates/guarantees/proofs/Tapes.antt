-- Joined tapes that are lent by name are in order alike in two runs: any number of tapes of one width is never as long as 1 to 8 of another, so
-- where the length is the due one, the parts that a call looks at are the dealt tapes themselves.
use Prim.Native.Nat.{ℕ, suc, ◌+◌, ◌-◌, ◌*◌, ◌%◌, ◌<◌}
use mathlib.Core.Path.{◌≡◌, refl, sym, ap, ◌∙◌}
use mathlib.Core.Bool.{Bool, true, false, not, ◌||◌, cond, true≢false}
use mathlib.Core.List.{List, []}
use mathlib.Core.Logic.{⊎_elim}
use native.Mathlib.Nat.{mul-mod_left, eq_of_mul-eq-mul_right}
use native.Mathlib.Omega.{arith}
use borrow.Author.Tests.{eq-eqb, eqb-true}
use lib.Dec.{eqb}
use lib.ListN.{length}
use Rattle.lists.specs.Every.{every}
use Rattle.lists.specs.Joined.{chained, part}
use Rattle.lists.proofs.Every.{every_at}
use Rattle.lists.proofs.Tests.{or_cases}
use Rattle.lists.proofs.Joined.{length_chained}
use Rattle.field.specs.Width.{widths, listed}
use Rattle.field.proofs.Widths.{all, each_listed}
use Rattle.tape.specs.Layout.{tape_length}
use Rattle.tape.specs.Order.{in_order}
use Rattle.tape.proofs.Keys.{order_alike}
use Rattle.protocol.specs.Sizes.{most_jobs, count_fits, tape_for}
use Rattle.rules.specs.Batches.{tape_part}
use Rattle.rules.specs.declared.state.State.{State}
use Rattle.rules.proofs.Batches.{count_most}
use Rattle.guarantees.specs.Boxes.{side_of}
use Rattle.guarantees.specs.Entries.{Lent, dealt, loose}
use Rattle.guarantees.specs.Run.{Setting, tape_words}
use Rattle.guarantees.proofs.Jobs.{InOrder, dealt_long, dealt_part}
use Rattle.guarantees.proofs.Refusals.{TapesAlike}

-- ---- lengths

-- w is n, or no 1 to 8 tapes of width n are as long as any number of tapes of width w
abbrev apart : ℕ → ℕ → Bool
apart n w = eqb w n || every most_jobs (λ k. not (eqb (suc k * tape_length n % tape_length w) 0))

listed_apart : (n w : ℕ) → listed n ≡ true → listed w ≡ true → apart n w ≡ true
listed_apart n w l m = each_listed (λ v. apart v w) (each_listed (λ u. all (λ v. apart v u) widths) refl m) l

joined_width : (n w count k : ℕ) → listed n ≡ true → listed w ≡ true → count_fits count ≡ true → k * tape_length w ≡ count * tape_length n → w ≡ n
joined_width n w count k l m fits long =
    ⊎_elim (λ same. eqb-true w n same) (λ others. absurd (true≢false (sym (differ others) ∙ same_length)))
    (or_cases (eqb w n) (every most_jobs differs) (listed_apart n w l m))
  where
    differs : ℕ → Bool
    differs i = not (eqb (suc i * tape_length n % tape_length w) 0)

    one_less : suc (count - 1) ≡ count
    one_less = omega (arith, (count_most count fits).0)

    same_length : not (eqb (count * tape_length n % tape_length w) 0) ≡ false
    same_length =
        ap not
        (eq-eqb (count * tape_length n % tape_length w) 0
        (ap (λ (j : ℕ). j % tape_length w) (sym long) ∙ mul-mod_left k (tape_length w)))

    differ : every most_jobs differs ≡ true → not (eqb (count * tape_length n % tape_length w) 0) ≡ true
    differ others =
        ap (λ (j : ℕ). not (eqb (j * tape_length n % tape_length w) 0)) (sym one_less)
        ∙ every_at most_jobs differs others (count - 1) (omega (arith, count_most count fits))

-- ---- parts

-- no tape is in order for a width that is not listed
unlisted : (n pair side number : ℕ) (tape : List ℕ) → listed n ≡ false → in_order n pair side number tape ≡ false
unfolding in_order
unlisted n pair side number tape l = rw l refl

module _ (g g' : Setting) (pair : ℕ) (orders : InOrder g pair) (orders' : InOrder g' pair) where
  pub tapes_alike : (s : State) (first count : ℕ) (lent : Lent) → TapesAlike s first count (tape_words g lent) (tape_words g' lent)
  tapes_alike s first count (loose words) = record { long = refl; ordered = λ counted due i less. refl }
  tapes_alike s first count (dealt c from k width) = go (listed width) refl
    where
      tape : Setting → ℕ → List ℕ
      tape h j = h.tapes c (from + j) width

      go : (t : Bool) → listed width ≡ t → TapesAlike s first count (cond t (chained k (tape g)) []) (cond t (chained k (tape g')) [])
      go false q = record { long = refl; ordered = λ counted due i less. refl }
      go true q =
          record { long = long g orders ∙ sym (long g' orders'); ordered = λ counted due i less. same counted due i less (listed s.n) refl }
        where
          long : (h : Setting) → InOrder h pair → length (chained k (tape h)) ≡ k * tape_length width
          long h dealt_in_order = length_chained k (tape_length width) (tape h) (λ j l. dealt_long h pair dealt_in_order c from width q j)

          same : count_fits count ≡ true → length (chained k (tape g)) ≡ tape_for s.n count → (i : ℕ) → i < count → (t : Bool) → listed s.n ≡ t
              → in_order s.n s.pair s.side (first + i) (tape_part s.n (chained k (tape g)) i)
              ≡ in_order s.n s.pair s.side (first + i) (tape_part s.n (chained k (tape g')) i)
          same counted due i less false l =
              unlisted s.n s.pair s.side (first + i) (tape_part s.n (chained k (tape g)) i) l
              ∙ sym (unlisted s.n s.pair s.side (first + i) (tape_part s.n (chained k (tape g')) i) l)
          same counted due i less true l =
              ap (in_order s.n s.pair s.side (first + i)) (own g orders)
              ∙ order_alike width pair (side_of c) (from + i) s.n s.pair s.side (first + i) (tape g i) (tape g' i) (orders c (from + i) width q)
              (orders' c (from + i) width q)
              ∙ ap (in_order s.n s.pair s.side (first + i)) (sym (own g' orders'))
            where
              words : k * tape_length width ≡ count * tape_length s.n
              words = sym (long g orders) ∙ due

              width_is : width ≡ s.n
              width_is = joined_width s.n width count k l q counted words

              count_is : k ≡ count
              count_is =
                  eq_of_mul-eq-mul_right (tape_length width) (omega arith) k count
                  (words ∙ ap (λ (n : ℕ). count * tape_length n) (sym width_is))

              -- a part is a dealt tape
              own : (h : Setting) → InOrder h pair → tape_part s.n (chained k (tape h)) i ≡ tape h i
              own h dealt_in_order =
                  ap (λ (n : ℕ). part (tape_length n) (chained k (tape h)) i) (sym width_is)
                  ∙ dealt_part h pair dealt_in_order c from width q k i (rw count_is less)
