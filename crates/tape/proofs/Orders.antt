-- What it means that a tape is in order, fact by fact, and back.
use Prim.Native.Nat.{ℕ, zero, suc, ◌+◌, ◌<◌}
use mathlib.Core.Path.{◌≡◌, refl, ◌∙◌}
use mathlib.Core.Bool.{true, ◌&&◌}
use mathlib.Core.List.{List}
use native.Mathlib.Omega.{arith}
use borrow.Author.Tests.{eqb-true, eq-eqb, ltb-true, lt-ltb}
use lib.Dec.{eqb, ltb}
use lib.ListN.{length, get_or}
use Rattle.lists.proofs.Tests.{and_left, and_right, and_both}
use Rattle.lists.proofs.Every.{every_at, every_intro}
use Rattle.field.specs.Width.{listed, modulus}
use Rattle.shares.specs.Side.{is_side}
use Rattle.tape.specs.Layout.{body_length, tape_length, trailer, trailer_length}
use Rattle.tape.specs.Order.{trailer_fits, body_in_range, in_order, Readable}

-- the three distances do not depend on the pair, the side or the number
distances_alone : (n pair side number k : ℕ) → k < 3 → get_or (trailer n pair side number) k 0 ≡ get_or (trailer n 0 0 0) k 0
distances_alone n pair side number zero l = refl
distances_alone n pair side number (suc zero) l = refl
distances_alone n pair side number (suc (suc zero)) l = refl
distances_alone n pair side number (suc (suc (suc k))) l = omega arith

module _ (n pair side number : ℕ) (tape : List ℕ) where
  -- the five tests
  record Tests : Type 0 where
    width : listed n ≡ true
    box : is_side side ≡ true
    long : eqb (length tape) (tape_length n) ≡ true
    trailers : trailer_fits n pair side number tape ≡ true
    body : body_in_range n tape ≡ true

  tests : in_order n pair side number tape ≡ true → Tests
  unfolding in_order
  tests e =
      let two = listed n && is_side side in
      let three = two && eqb (length tape) (tape_length n) in
      let four = three && trailer_fits n pair side number tape in
      let fours = and_left four (body_in_range n tape) e in
      let threes = and_left three (trailer_fits n pair side number tape) fours in
      let twos = and_left two (eqb (length tape) (tape_length n)) threes in
      record {
        width = and_left (listed n) (is_side side) twos;
        box = and_right (listed n) (is_side side) twos;
        long = and_right two (eqb (length tape) (tape_length n)) threes;
        trailers = and_right three (trailer_fits n pair side number tape) fours;
        body = and_right four (body_in_range n tape) e;
      }

  pub order_side : in_order n pair side number tape ≡ true → is_side side ≡ true
  order_side e = (tests e).box

  pub order_trailer : in_order n pair side number tape ≡ true
      → (k : ℕ) → k < 7 → get_or tape (body_length n + k) 0 ≡ get_or (trailer n pair side number) k 0
  unfolding trailer_fits
  order_trailer e k l =
      eqb-true _ _ (every_at trailer_length (λ j. eqb (get_or tape (body_length n + j) 0) (get_or (trailer n pair side number) j 0)) (tests e).trailers k l)

  pub readable : in_order n pair side number tape ≡ true → Readable n tape
  unfolding body_in_range
  readable e =
      record {
        width = (tests e).width;
        long = eqb-true _ _ (tests e).long;
        distances = λ k l. order_trailer e k (omega arith) ∙ distances_alone n pair side number k l;
        below = λ i l. ltb-true _ _ (every_at (body_length n) (λ j. ltb (get_or tape j 0) (modulus n)) (tests e).body i l);
      }

  pub in_order_lem : listed n ≡ true → is_side side ≡ true → length tape ≡ tape_length n
      → ((k : ℕ) → k < 7 → get_or tape (body_length n + k) 0 ≡ get_or (trailer n pair side number) k 0)
      → ((i : ℕ) → i < body_length n → get_or tape i 0 < modulus n)
      → in_order n pair side number tape ≡ true
  unfolding in_order trailer_fits body_in_range
  in_order_lem width box long trailers below =
      and_both (and_both (and_both (and_both width box) (eq-eqb _ _ long))
      (every_intro trailer_length (λ j. eqb (get_or tape (body_length n + j) 0) (get_or (trailer n pair side number) j 0)) (λ k l. eq-eqb _ _ (trailers k l))))
      (every_intro (body_length n) (λ j. ltb (get_or tape j 0) (modulus n)) (λ i l. lt-ltb _ _ (below i l)))
