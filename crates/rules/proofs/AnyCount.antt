-- Jobs on plain tapes go, for every count and every band.
use Prim.Native.Nat.{ℕ, zero, suc, ◌+◌, ◌*◌, ◌<◌, ◌≤◌}
use mathlib.Core.Path.{◌≡◌, refl}
use mathlib.Core.Bool.{true}
use mathlib.Core.List.{List}
use native.Mathlib.Nat.{zero-add, mul-le-mul_right}
use native.Mathlib.Omega.{arith}
use borrow.Author.Tests.{le-leb}
use lib.Dec.{leb}
use lib.ListN.{length, get_or, replicate, length-replicate}
use Rattle.std.proofs.lemmas.List.{get_or-replicate}
use Rattle.lists.proofs.Every.{every_intro}
use Rattle.lists.proofs.Joined.{length_chained, part_chained}
use Rattle.field.specs.Width.{listed, modulus}
use Rattle.field.proofs.Widths.{bounds}
use Rattle.shares.specs.Side.{is_side}
use Rattle.shares.specs.Reading.{legible}
use Rattle.shares.proofs.Sides.{constant_below}
use Rattle.tape.specs.Layout.{tape_length}
use Rattle.tape.specs.Plain.{plain_tape}
use Rattle.tape.proofs.Orders.{readable}
use Rattle.tape.proofs.Plains.{plain_order}
use Rattle.protocol.specs.Work.{work_length}
use Rattle.protocol.specs.Sizes.{most_jobs, round_for, work_for}
use Rattle.tally.specs.Tally.{tally_fits, tapes_of, mark_at, is_fresh}
use Rattle.tally.proofs.Late.{not_late}
use Rattle.rules.specs.Tasks.{count_of, task_fits, pairs_of}
use Rattle.rules.specs.Batches.{x_in, y_in}
use Rattle.rules.specs.Moves.{Asked}
use Rattle.rules.specs.Modes.{in_range, mode_of}
use Rattle.rules.specs.Grounds.{words_fit}
use Rattle.rules.specs.OneByOne.{Left, Lent}
use Rattle.rules.specs.AnyCount.{awake_box, shares_for, plain_jobs, AnyCount}
use Rattle.rules.specs.declared.state.Task.{Task}
use Rattle.rules.specs.declared.state.Task.TheVariants.{Compare, Band}
use Rattle.rules.specs.declared.state.Phase.TheVariants.{Idle}
use Rattle.rules.proofs.Tasks.{counted, bounds_in}
use Rattle.rules.proofs.Batches.{count_most}
use Rattle.rules.proofs.Passed.{StartPassed}
use Rattle.rules.proofs.Goes.{start_goes}
use Rattle.rules.proofs.Runs.{clear_goes}
use Rattle.rules.proofs.Fits.{fits_clear}

-- every tape of a tally of FF is fresh
abbrev ff : List ℕ
ff = replicate (mark_at most_jobs) 255

all_ff_lem : (k : ℕ) → k < mark_at most_jobs → get_or ff k 0 ≡ 255
all_ff_lem k less = get_or-replicate (mark_at most_jobs) k 255 0 less

all_fresh : (number : ℕ) → number < most_jobs → is_fresh ff number ≡ true
unfolding is_fresh
all_fresh number less =
    rw (
      all_ff_lem (mark_at number + 0) (omega arith),
      all_ff_lem (mark_at number + 1) (omega arith),
      all_ff_lem (mark_at number + 2) (omega arith),
      all_ff_lem (mark_at number + 3) (omega arith),
    )
    refl

-- ---- words of 0

abbrev zeros : ℕ → List ℕ
zeros size = replicate size 0

zeros_long : (size : ℕ) → length (zeros size) ≡ size
zeros_long size = length-replicate size _

zero_at : (size i : ℕ) → i < size → get_or (zeros size) i 0 ≡ 0
zero_at size i less = get_or-replicate size i _ _ less

-- they can be read
zeros_fit : (n size : ℕ) → words_fit n (zeros size) ≡ true
unfolding legible
zeros_fit n size =
    every_intro (length (zeros size)) (λ i. leb (get_or (zeros size) i 0) (modulus n))
    (λ i less. rw (zero_at size i (omega (arith, zeros_long size, less))) (le-leb 0 (modulus n) (omega arith)))

-- the shares of x and y: zeros, and a band's bounds
module _ (n side : ℕ) (width : listed n ≡ true) where
  zero_fits : 0 < modulus n
  zero_fits = omega (arith, (bounds width).seven)

  x_below : (task : Task) (i : ℕ) → task_fits n task ≡ true → i < count_of task → x_in (pairs_of side task (zeros (shares_for task))) i < modulus n
  x_below (Compare count) i fits less = rw (zero_at (2 * count) (2 * i) (omega arith)) zero_fits
  x_below (Band low high) zero fits less =
      let b = bounds_in n low high fits in
      constant_below side (omega (arith, b.0, b.1))
  x_below (Band low high) (suc zero) fits less = zero_fits
  x_below (Band low high) (suc (suc i)) fits less = absurd (omega (arith, less))

  y_below : (task : Task) (i : ℕ) → task_fits n task ≡ true → i < count_of task → y_in (pairs_of side task (zeros (shares_for task))) i < modulus n
  y_below (Compare count) i fits less = rw (zero_at (2 * count) (2 * i + 1) (omega arith)) zero_fits
  y_below (Band low high) zero fits less = zero_fits
  y_below (Band low high) (suc zero) fits less = constant_below side (bounds_in n low high fits).1
  y_below (Band low high) (suc (suc i)) fits less = absurd (omega (arith, less))

plain_asked : (n : ℕ) (task : Task) → task_fits n task ≡ true → Asked n task (zeros (shares_for task))
plain_asked n (Compare count) fits = zeros_long (2 * count)
plain_asked n (Band low high) fits = bounds_in n low high fits

module _ (n side : ℕ) (task : Task) (width : listed n ≡ true) (box : is_side side ≡ true) (fits : task_fits n task ≡ true) where
  abbrev l : Left
  l = awake_box n side

  abbrev j : Lent
  j = plain_jobs n side task

  abbrev count : ℕ
  count = count_of task

  few : count ≤ most_jobs
  few = (count_most count (counted n task fits)).1

  awake : mode_of l.state ≡ Idle
  unfolding mode_of in_range tally_fits
  awake = rw (width, box) refl

  one_long : (i : ℕ) → length (plain_tape n 0 side i) ≡ tape_length n
  one_long i = (readable n 0 side i (plain_tape n 0 side i) (plain_order n 0 side i width box)).long

  given : StartPassed l.state 0 task j.shares j.tapes l.work l.tally
  unfolding tapes_of
  given =
      record {
        awake = rw awake refl;
        idle = rw awake refl;
        fits = fits;
        counted = counted n task fits;
        same_tally = refl;
        asked = plain_asked n task fits;
        numbered = λ i less. rw (zero-add i) (omega (arith, less, few));
        fresh = λ i less. rw (zero-add i) (all_fresh i (omega (arith, less, few)));
        in_time = λ i less. not_late l.tally (0 + i) (λ k above within. all_fresh k within);
        x_fits = λ i less. x_below n side width task i fits less;
        y_fits = λ i less. y_below n side width task i fits less;
        long = length_chained count (tape_length n) (plain_tape n 0 side) (λ i less. one_long i);
        ordered = λ i less.
            rw (zero-add i, part_chained count (tape_length n) (plain_tape n 0 side) i less (λ k low. one_long k)) (plain_order n 0 side i width box);
        room = rw (zeros_long (work_for n most_jobs)) (mul-le-mul_right (work_length n) few);
      }

pub any_count : AnyCount
any_count n side task width box fits =
    let l = awake_box n side in
    let j = plain_jobs n side task in
    let count = count_of task in
    clear_goes l j
    (fits_clear l j
    (record {
      start = start_goes l.state 0 task j.shares j.tapes l.work l.tally (given n side task width box fits);
      roomy = λ r less. rw (zeros_long (round_for n count (suc r))) (omega arith);
      long = λ r less. zeros_long (round_for n count (suc r));
      legible = λ r less. zeros_fit n (round_for n count (suc r));
    }))
