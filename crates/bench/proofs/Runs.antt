-- A job on dealt tapes that both tallies have next: all that it is given is as it must be, so it goes, and every bit is right.
use Prim.Native.Nat.{ℕ, zero, suc, ◌+◌, ◌*◌, ◌<◌, ◌≤◌}
use mathlib.Core.Path.{◌≡◌, refl, ap, sym, ◌∙◌}
use mathlib.Core.Bool.{true}
use mathlib.Core.List.{List}
use native.Mathlib.Omega.{arith}
use borrow.Author.Tests.{eq-eqb, eqb-true, le-leb}
use lib.Dec.{eqb}
use lib.ListN.{length, get_or}
use Rattle.std.specs.Prelude.{Ok, Err}
use Rattle.lists.specs.Every.{every}
use Rattle.lists.proofs.Every.{every_intro, every_at}
use Rattle.lists.proofs.Tests.{and_both}
use Rattle.field.specs.Width.{listed, modulus}
use Rattle.field.proofs.Widths.{bounds}
use Rattle.shares.specs.Side.{is_side, other}
use Rattle.shares.proofs.Sides.{constant_below}
use Rattle.tape.specs.Order.{in_order}
use Rattle.tape.proofs.Dealing.{own_readable}
use Rattle.protocol.specs.Sizes.{tape_for, round_for}
use Rattle.refusals.specs.declared.Refusal.{Refusal}
use Rattle.refusals.proofs.Numbers.{numbered}
use Rattle.rules.specs.Tasks.{count_of, task_fits, pairs_of, answer_count}
use Rattle.rules.specs.Moves.{Asked}
use Rattle.rules.specs.Batches.{x_in, y_in, tape_part}
use Rattle.rules.specs.declared.state.Task.{Task}
use Rattle.rules.specs.declared.state.Task.TheVariants.{Compare, Band}
use Rattle.rules.proofs.Tasks.{counted, bounds_in}
use Rattle.rules.proofs.Batches.{count_most}
use Rattle.rules.proofs.Sizes.{round_most, work_most}
use Rattle.rules.specs.Bits.{right_bit}
use Rattle.exchange.specs.Jobs.{Lent, lent, Ended, ended, job_of, DealtFor}
use Rattle.bench.specs.Eight.{Small, Right, AllDealt, Next, marks}
use Rattle.bench.proofs.Going.{Fit, JobGone, job_goes}
use Rattle.bench.proofs.Marks.{marks_tapes, marks_fit, marks_fresh, marks_in_time, marks_more}

-- all bits that came out are those of the ordinary comparison
abbrev pub Ordinary : ℕ → Task → List ℕ → List ℕ → List ℕ → Type 0
Ordinary n task bits shares1 shares2 = every (answer_count task) (λ i. eqb (get_or bits i 0) (right_bit n task shares1 shares2 i)) ≡ true

-- ---- small shares are in range

all_asked : (n : ℕ) (task : Task) (shares : List ℕ) → task_fits n task ≡ true → Small task shares → Asked n task shares
all_asked n (Compare count) shares fits small = small.0
all_asked n (Band low high) shares fits small = bounds_in n low high fits

module _ (n side : ℕ) (width : listed n ≡ true) (shares : List ℕ) (below : (k : ℕ) → get_or shares k 0 < 7) where
  share_below : (k : ℕ) → get_or shares k 0 < modulus n
  share_below k = omega (arith, below k, bounds width)

  x_below : (task : Task) (i : ℕ) → task_fits n task ≡ true → i < count_of task → x_in (pairs_of side task shares) i < modulus n
  x_below (Compare count) i fits less = share_below (2 * i)
  x_below (Band low high) zero fits less = let b = bounds_in n low high fits in constant_below side (omega (arith, b.0, b.1))
  x_below (Band low high) (suc zero) fits less = share_below 0
  x_below (Band low high) (suc (suc i)) fits less = absurd (omega (arith, less))

  y_below : (task : Task) (i : ℕ) → task_fits n task ≡ true → i < count_of task → y_in (pairs_of side task shares) i < modulus n
  y_below (Compare count) i fits less = share_below (2 * i + 1)
  y_below (Band low high) zero fits less = share_below 0
  y_below (Band low high) (suc zero) fits less = constant_below side (bounds_in n low high fits).1
  y_below (Band low high) (suc (suc i)) fits less = absurd (omega (arith, less))

-- ---- a job

-- all that a bit is of has dealt tapes
dealt_for : {n first : ℕ} (task : Task) (t1 t2 : List ℕ) → AllDealt n first (count_of task) t1 t2 → (i : ℕ) → i < answer_count task
    → DealtFor n 1 first task t1 t2 i
dealt_for (Compare count) t1 t2 d i less = d.dealt i less
dealt_for (Band low high) t1 t2 d i less = (d.dealt 0 (omega arith), d.dealt 1 (omega arith))

-- what both boxes come with
module _ (n first : ℕ) (task : Task) (shares1 shares2 t1 t2 w1 w2 k1 k2 o1 o2 : List ℕ) where
  abbrev count : ℕ
  count = count_of task

  abbrev box1 : Lent
  box1 = lent shares1 t1 w1 k1 o1

  abbrev box2 : Lent
  box2 = lent shares2 t2 w2 k2 o2

  abbrev pub job : Ended
  job = job_of n 1 first task box1 box2

  pub came_right : (bits k1' k2' : List ℕ) → ended (Ok bits) k1' k2' ≡ job → Ordinary n task bits shares1 shares2
      → Right n first task shares1 shares2 t1 t2
  came_right bits k1' k2' e all =
      record {
        w1 = w1;
        w2 = w2;
        k1 = k1;
        k2 = k2;
        o1 = o1;
        o2 = o2;
        taken = sym (ap (λ (j : Ended). j.refusal) e);
        bits = λ i less. ap (λ (j : Ended). get_or j.bits i 0) (sym e) ∙ eqb-true _ _ (every_at (answer_count task) _ all i less);
      }

  -- on dealt tapes that the tallies have next, with shares in range and room
  module _ (d : Next n first task t1 t2 k1 k2) (small1 : Small task shares1) (small2 : Small task shares2)
      (work1 : length w1 ≡ 3488) (work2 : length w2 ≡ 3488) (out1 : length o1 ≡ 23112) (out2 : length o2 ≡ 23112) where
    width : listed n ≡ true
    width = (own_readable (d.dealt.dealt 0 (count_most count (counted n task d.fits)).0)).width

    few : count ≤ 8
    few = omega (arith, d.within)

    -- one of the boxes
    fit : (side : ℕ) (shares tapes work tally out : List ℕ) → is_side side ≡ true → Small task shares → length work ≡ 3488
        → tally ≡ marks first → length tapes ≡ tape_for n count
        → ((i : ℕ) → i < count → in_order n 1 side (first + i) (tape_part n tapes i) ≡ true) → Fit n side 1 first task (lent shares tapes work tally out)
    fit side shares tapes work tally out sided small room spent long ordered =
        record {
          width = width;
          sided = sided;
          tallied = rw spent (marks_fit first);
          fits = d.fits;
          asked = all_asked n task shares d.fits small;
          numbered = rw (spent, marks_tapes first) d.within;
          fresh = λ i less. rw spent (marks_fresh first (first + i) (omega arith) (omega (arith, d.within, less)));
          in_time = λ i less. rw spent (marks_in_time first (first + i) (omega arith));
          x_fits = λ i less. x_below n side width shares small.1 task i d.fits less;
          y_fits = λ i less. y_below n side width shares small.1 task i d.fits less;
          long = long;
          ordered = ordered;
          room = omega (arith, work_most n count width few, room);
        }

    goes : JobGone n 1 first task box1 box2
    unfolding is_side other
    goes =
        let most = round_most n count width few 1 in
        job_goes n 1 first task box1 box2
        (fit 1 shares1 t1 w1 k1 o1 refl small1 work1 d.spent1 d.dealt.long1 (λ i less. (d.dealt.dealt i less).own_order))
        (fit 2 shares2 t2 w2 k2 o2 refl small2 work2 d.spent2 d.dealt.long2 (λ i less. (d.dealt.dealt i less).others_order))
        (and_both (le-leb (round_for n count 1) (length o1) (omega (arith, most, out1))) (le-leb (round_for n count 1) (length o2) (omega (arith, most, out2))))

    pub spent_next1 : (tally : List ℕ) → tally ≡ job.tally1 → tally ≡ marks (first + count)
    spent_next1 tally e = e ∙ goes.marked1 ∙ rw d.spent1 (marks_more first count)

    pub spent_next2 : (tally : List ℕ) → tally ≡ job.tally2 → tally ≡ marks (first + count)
    spent_next2 tally e = e ∙ goes.marked2 ∙ rw d.spent2 (marks_more first count)

    pub all_right : (bits : List ℕ) → ((i : ℕ) → i < answer_count task → DealtFor n 1 first task t1 t2 i → get_or bits i 0 ≡ right_bit n task shares1 shares2 i)
        → Ordinary n task bits shares1 shares2
    all_right bits right = every_intro (answer_count task) _ (λ i less. eq-eqb _ _ (right i less (dealt_for task t1 t2 d.dealt i less)))

    pub not_refused : (refusal : Refusal) (k1' k2' : List ℕ) → ended (Err refusal) k1' k2' ≡ job → ⊥
    not_refused refusal k1' k2' e = omega (arith, ap (λ (j : Ended). j.refusal) e, goes.none, numbered refusal)
