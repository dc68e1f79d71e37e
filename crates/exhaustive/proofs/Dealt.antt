-- The tapes for bands are dealt, and on dealt tapes a band is right.
use Prim.Native.Nat.{ℕ, ◌+◌, ◌*◌, ◌%◌, ◌<◌}
use mathlib.Core.Path.{◌≡◌, refl, ap, ◌∙◌}
use mathlib.Core.Bool.{true}
use mathlib.Core.List.{List, ◌++◌}
use native.Mathlib.Nat.{zero-mul}
use native.Mathlib.Omega.{arith}
use borrow.Author.Tests.{lt-ltb}
use lib.ListN.{length, take, length-append}
use Rattle.std.proofs.lemmas.List.{take_at, take_all, drop_at}
use Rattle.field.specs.Width.{listed, modulus}
use Rattle.tape.specs.Layout.{tape_length}
use Rattle.tape.proofs.Dealing.{own_readable, others_readable}
use Rattle.deals.specs.Deals.{dealt_tape}
use Rattle.deals.proofs.Dealing.{dealt_tapes}
use Rattle.rules.specs.Batches.{tape_part}
use Rattle.rules.specs.Tasks.{bounds_fit}
use Rattle.exchange.proofs.Fresh.{fresh_band_taken, fresh_band_right}
use Rattle.exhaustive.specs.Bands.{inside, band_at, two_tapes, TwoDealt}

-- ---- a band on dealt tapes

module _ (n low high a1 a2 : ℕ) (t1 t2 : List ℕ) where
  -- it is taken, and its answer is that of the ordinary comparison
  pub band_right : TwoDealt n t1 t2 → low < high → high < modulus n → a1 < modulus n → a2 < modulus n
      → ((band_at n low high a1 a2 t1 t2).refusal ≡ 0)
      × ((band_at n low high a1 a2 t1 t2).less ≡ inside low high ((a1 + a2) % modulus n))
  band_right m order below share1 share2 =
      let fits : bounds_fit n low high ≡ true = rw (lt-ltb low high order, lt-ltb high (modulus n) below) refl in
      let taken = fresh_band_taken n 7 low high a1 a2 t1 t2 (m.first, m.second) m.long1 m.long2 fits share1 share2 in
      (taken, fresh_band_right n 7 low high a1 a2 t1 t2 0 taken (m.first, m.second))

-- ---- the tapes

-- two lists of a tape's length, one behind the other
module _ (n : ℕ) (first second : List ℕ) (long1 : length first ≡ tape_length n) (long2 : length second ≡ tape_length n) where
  part_first : tape_part n (first ++ second) 0 ≡ first
  part_first = rw (zero-mul (tape_length n)) (take_at first second (tape_length n) long1)

  part_second : tape_part n (first ++ second) 1 ≡ second
  part_second =
      ap (take (tape_length n)) (drop_at first second (1 * tape_length n) (omega (arith, long1)))
      ∙ take_all (tape_length n) second (omega (arith, long2))

pub two_dealt : (n seed : ℕ) → listed n ≡ true → TwoDealt n (two_tapes n seed 1) (two_tapes n seed 2)
unfolding two_tapes
two_dealt n seed width =
    let own = dealt_tape seed n 7 1 0 in
    let own' = dealt_tape (seed + 961) n 7 1 1 in
    let others = dealt_tape seed n 7 2 0 in
    let others' = dealt_tape (seed + 961) n 7 2 1 in
    let m = dealt_tapes seed n 7 0 width in
    let m' = dealt_tapes (seed + 961) n 7 1 width in
    let long1 = (own_readable m).long in
    let long1' = (own_readable m').long in
    let long2 = (others_readable m).long in
    let long2' = (others_readable m').long in
    record {
      long1 = omega (arith, length-append own own', long1, long1');
      long2 = omega (arith, length-append others others', long2, long2');
      first = rw (part_first n own own' long1 long1', part_first n others others' long2 long2') m;
      second = rw (part_second n own own' long1 long1', part_second n others others' long2 long2') m';
    }
