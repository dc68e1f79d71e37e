-- A job of a start by itself, as it comes after the jobs before it: none of its calls is refused, and it sends and answers what it sends and answers
-- among the others.
use Prim.Native.Nat.{ℕ, suc, ◌+◌, ◌*◌, ◌<◌, ◌≤◌}
use mathlib.Core.Path.{◌≡◌, refl, sym, ap, ◌∙◌}
use mathlib.Core.List.{List}
use mathlib.Core.Logic.{inr}
use native.Mathlib.Nat.{add-zero, one-mul, mul-le-mul_right}
use native.Mathlib.Omega.{arith}
use lib.ListN.{length, get_or}
use Rattle.lists.proofs.Joined.{within, length_part, get_part, part_one, all_part}
use Rattle.shares.specs.Reading.{legible}
use Rattle.tape.specs.Layout.{tape_length}
use Rattle.protocol.specs.Work.{work_length}
use Rattle.protocol.specs.Rounds.{earlier_rounds, last_round, round_words, message, answer_share}
use Rattle.protocol.specs.Sizes.{count_fits}
use Rattle.protocol.proofs.Live.{Live, message_live, answer_live}
use Rattle.tally.specs.Tally.{first_marks}
use Rattle.tally.proofs.Starts.{first_length, first_others, first_in_time}
use Rattle.rules.specs.Tasks.{count_of, pairs_of}
use Rattle.rules.specs.Modes.{mode_of, in_phase}
use Rattle.rules.specs.Batches.{no_batch, x_in, y_in, work_part}
use Rattle.rules.specs.OneByOne.{Left, Lent, whole, words_spoken, answers, alone}
use Rattle.rules.specs.declared.state.Task.TheVariants.{Compare}
use Rattle.rules.specs.declared.state.Phase.TheVariants.{Idle}
use Rattle.rules.specs.declared.state.Batch.{Batch}
use Rattle.rules.proofs.Ranges.{awake_range, phase_mode, awake_listed}
use Rattle.rules.proofs.Tasks.{two_each}
use Rattle.rules.proofs.Batches.{lone}
use Rattle.rules.proofs.Passed.{StartPassed}
use Rattle.rules.proofs.Goes.{start_goes}
use Rattle.rules.proofs.Runs.{work_after, Clear, whole_is}
use Rattle.rules.proofs.Fits.{begun, clear_fits, fits_clear}
use Rattle.rules.proofs.EachJob.{kept, kept_heard, kept_live, party_in, heard_in, kept_in, words_is, answer_is}

-- what the jobs before it leave: no job, their marks, and work of the same length
abbrev pub before : Left → Lent → Batch → List ℕ → ℕ → Left
before l j b work i = record { state = in_phase l.state Idle b; work = work; tally = first_marks l.tally j.first i }

module _ (l : Left) (j : Lent) (c : Clear l j) (i : ℕ) (less : i < count_of j.task) where
  abbrev n : ℕ
  n = l.state.n

  abbrev pairs : List ℕ
  pairs = pairs_of l.state.side j.task j.shares

  abbrev a : Lent
  a = alone n l.state.side j i

  given : StartPassed l.state j.first j.task j.shares j.tapes l.work l.tally
  given = begun l j c.start

  -- ---- its part of what is lent

  shares_long : i * 2 + 2 ≤ length pairs
  shares_long = omega (arith, two_each n l.state.side j.task j.shares given.asked)

  tapes_long : length a.tapes ≡ tape_length n
  tapes_long = length_part (tape_length n) j.tapes i (rw given.long (within (count_of j.task) (tape_length n) i less))

  words_room : (r : ℕ) → r < last_round → i * round_words n (suc r) + round_words n (suc r) ≤ length (j.incoming (suc r))
  words_room r low = rw ((clear_fits l j c).long r low) (within (count_of j.task) (round_words n (suc r)) i less)

  words_long : (r : ℕ) → r < last_round → length (a.incoming (suc r)) ≡ round_words n (suc r)
  words_long r low = length_part (round_words n (suc r)) (j.incoming (suc r)) i (words_room r low)

  own_x : x_in a.shares 0 ≡ x_in pairs i
  own_x = get_part 2 pairs i 0 (omega arith) ∙ ap (λ (k : ℕ). get_or pairs k 0) (omega arith)

  own_y : y_in a.shares 0 ≡ y_in pairs i
  own_y = get_part 2 pairs i 1 (omega arith) ∙ ap (λ (k : ℕ). get_or pairs k 0) (omega arith)

  module _ (b : Batch) (work : List ℕ) (same_room : length work ≡ length l.work) where
    abbrev m : Left
    m = before l j b work i

    -- ---- none of its calls is refused

    given_alone : StartPassed m.state a.first (Compare 1) a.shares a.tapes work m.tally
    unfolding count_fits
    given_alone =
        let p = given in
        let idle : mode_of m.state ≡ Idle = phase_mode l.state Idle b (awake_range l.state p.awake) refl in
        let many : 1 ≤ count_of j.task = omega (arith, less) in
        record {
          awake = rw idle refl;
          idle = rw idle refl;
          fits = refl;
          counted = refl;
          same_tally = first_length l.tally j.first i ∙ p.same_tally;
          asked = length_part 2 pairs i shares_long;
          numbered = λ k low. rw (lone k low, add-zero (j.first + i), first_length l.tally j.first i) (p.numbered i less);
          fresh = λ k low. rw (lone k low, add-zero (j.first + i))
              (first_others l.tally j.first i (j.first + i) (inr (omega arith)) ∙ p.fresh i less);
          in_time = λ k low. rw (lone k low, add-zero (j.first + i))
              (first_in_time l.tally j.first i (j.first + i) (omega arith) (p.in_time i less));
          x_fits = λ k low. rw (lone k low, own_x) (p.x_fits i less);
          y_fits = λ k low. rw (lone k low, own_y) (p.y_fits i less);
          long = tapes_long ∙ sym (one-mul (tape_length n));
          ordered = λ k low. rw (lone k low, add-zero (j.first + i), part_one a.tapes (tape_length n) tapes_long) (p.ordered i less);
          room = omega (arith, same_room, p.room, mul-le-mul_right (work_length n) many);
        }

    pub clear_alone : Clear m a
    clear_alone =
        let f = clear_fits l j c in
        let many : 1 ≤ count_of j.task = omega (arith, less) in
        fits_clear m a
        (record {
          start = start_goes m.state a.first (Compare 1) a.shares a.tapes work m.tally given_alone;
          roomy = λ r low. omega (arith, f.roomy r low, mul-le-mul_right (round_words n (suc r)) many);
          long = λ r low. words_long r low ∙ sym (one-mul (round_words n (suc r)));
          legible = λ r low. all_part (legible n) (round_words n (suc r)) (j.incoming (suc r)) i (words_room r low) (f.legible r low);
        })

    -- ---- it goes as it goes among the others

    same_party : party_in m a 0 ≡ party_in l j i
    same_party = rw (own_x, own_y, part_one a.tapes (tape_length n) tapes_long) refl

    same_heard : (r : ℕ) → r < last_round → heard_in m a 0 (suc r) ≡ heard_in l j i (suc r)
    same_heard r low = part_one (a.incoming (suc r)) (round_words n (suc r)) (words_long r low)

    same_kept : (r : ℕ) → r < last_round
        → kept (party_in l j i) (work_part n work 0) (heard_in m a 0) r ≡ kept (party_in l j i) (work_part n work 0) (heard_in l j i) r
    same_kept r low = kept_heard (party_in l j i) (work_part n work 0) (heard_in m a 0) (heard_in l j i) r (λ k below. same_heard k (omega arith))

    live : (r : ℕ) → Live n r (kept_in l j i r) (kept (party_in l j i) (work_part n work 0) (heard_in l j i) r)
    live r =
        let width = awake_listed l.state given.awake in
        let many : 1 ≤ count_of j.task = omega (arith, less) in
        let fits = within (count_of j.task) (work_length n) i less in
        let long : length (work_part n l.work i) ≡ work_length n = length_part (work_length n) l.work i (omega (arith, fits, given.room)) in
        let long' : length (work_part n work 0) ≡ work_length n =
        length_part (work_length n) work 0 (omega (arith, same_room, given.room, mul-le-mul_right (work_length n) many)) in
        kept_live (party_in l j i) (work_part n l.work i) (work_part n work 0) (heard_in l j i) width (omega (arith, long)) (omega (arith, long')) r

    pub sends_alone : (r : ℕ) → r < last_round → words_spoken m a r ≡ message (party_in l j i) (kept_in l j i r) (suc r)
    sends_alone r low =
        words_is m a clear_alone r low
        ∙ rw (same_party, same_kept r low) (sym (message_live (party_in l j i) r _ _ (live r)))

    pub answers_alone : get_or (answers m a) 0 0 ≡ answer_share (party_in l j i) (kept_in l j i earlier_rounds) (heard_in l j i last_round)
    answers_alone =
        answer_is m a clear_alone 0 (omega arith)
        ∙ rw (same_party, same_kept earlier_rounds (omega arith), same_heard earlier_rounds (omega arith))
        (sym (answer_live (party_in l j i) _ _ (heard_in l j i last_round) (live earlier_rounds)))

    -- what it leaves
    pub leaves_alone : whole m a ≡ before l j no_batch (work_after m a last_round) (suc i)
    leaves_alone = whole_is m a clear_alone ∙ rw (add-zero (j.first + i)) refl
