-- Jobs that one start takes give what the same jobs give one by one.
use Prim.Native.Nat.{ℕ, zero, suc, ◌<◌, ◌≤◌}
use mathlib.Core.Path.{◌≡◌, refl, sym, ap, ◌∙◌}
use mathlib.Core.List.{List}
use native.Mathlib.Omega.{arith}
use lib.ListN.{length}
use Rattle.lists.proofs.Joined.{chained_same}
use Rattle.protocol.specs.Rounds.{earlier_rounds, last_round, message, answer_share}
use Rattle.rules.specs.Tasks.{count_of}
use Rattle.rules.specs.Modes.{in_phase}
use Rattle.rules.specs.Batches.{no_batch}
use Rattle.rules.specs.OneByOne.{Left, Lent, whole, Goes, alone, in_turn, alone_words, alone_answer, OneByOne}
use Rattle.rules.specs.declared.state.Batch.{Batch}
use Rattle.rules.proofs.Batches.{count_most, from_same}
use Rattle.rules.proofs.Ranges.{awake_mode}
use Rattle.rules.proofs.Moves.{is_idle}
use Rattle.rules.proofs.Runs.{work_after, Clear, whole_is, goes_clear, clear_goes}
use Rattle.rules.proofs.Fits.{begun, work_long}
use Rattle.rules.proofs.EachJob.{party_in, heard_in, kept_in, words_is, share_of, answer_is, no_answer}
use Rattle.rules.proofs.Alone.{before, clear_alone, sends_alone, answers_alone, leaves_alone}

module _ (l : Left) (j : Lent) (c : Clear l j) where
  -- what the first so many jobs leave: their marks, and none of them open
  record Turned (i : ℕ) : Type 0 where
    batch : Batch
    work : List ℕ
    same_room : length work ≡ length l.work
    is : in_turn l j i ≡ before l j batch work i
    closed : 0 < i → batch ≡ no_batch

  turned : (i : ℕ) → i ≤ count_of j.task → Turned i
  unfolding in_turn
  turned zero most =
      let p = begun l j c.start in
      let idle = sym (awake_mode l.state p.awake) ∙ is_idle _ p.awake p.idle in
      record {
        batch = l.state.batch;
        work = l.work;
        same_room = refl;
        is = ap (λ phase. record { state = in_phase l.state phase l.state.batch; work = l.work; tally = l.tally }) idle;
        closed = λ some. absurd (omega (arith, some));
      }
  turned (suc i) most =
      let t = turned i (omega arith) in
      let a = alone l.state.n l.state.side j i in
      record {
        batch = no_batch;
        work = work_after (before l j t.batch t.work i) a last_round;
        same_room = work_long (before l j t.batch t.work i) a last_round ∙ t.same_room;
        is = ap (λ (left : Left). whole left a) t.is ∙ leaves_alone l j c i most t.batch t.work t.same_room;
        closed = λ some. refl;
      }

  -- job i after those before it
  module _ (i : ℕ) (less : i < count_of j.task) where
    t : Turned i
    t = turned i (omega arith)

    goes : Goes (in_turn l j i) (alone l.state.n l.state.side j i)
    goes = rw t.is (clear_goes _ _ (clear_alone l j c i less t.batch t.work t.same_room))

    sends : (r : ℕ) → r < last_round → message (party_in l j i) (kept_in l j i r) (suc r) ≡ alone_words l j r i
    sends r low = rw t.is (sym (sends_alone l j c i less t.batch t.work t.same_room r low))

    answers_it : answer_share (party_in l j i) (kept_in l j i earlier_rounds) (heard_in l j i last_round) ≡ alone_answer l j i
    answers_it = rw t.is (sym (answers_alone l j c i less t.batch t.work t.same_room))

pub one_by_one : OneByOne
one_by_one l j g =
    let c = goes_clear l j g in
    let some : 1 ≤ count_of j.task = (count_most (count_of j.task) (begun l j c.start).counted).0 in
    let all = turned l j c (count_of j.task) (omega arith) in
    let left = whole_is l j c ∙ ap (λ b. before l j b (work_after l j last_round) (count_of j.task)) (sym (all.closed some)) in
    record {
      goes = goes l j c;
      words = λ r low.
          words_is l j c r low
          ∙ chained_same (count_of j.task) (λ i. message (party_in l j i) (kept_in l j i r) (suc r)) (alone_words l j r) (λ i less. sends l j c i less r low);
      each_answer = λ i less.
          answer_is l j c i less
          ∙ from_same l.state.n l.state.side j.task (share_of l j c) (alone_answer l j) i (λ k low. answers_it l j c k low) less;
      no_more = no_answer l j c;
      tally = ap (λ (m : Left). m.tally) left ∙ sym (ap (λ (m : Left). m.tally) all.is);
      state = ap (λ (m : Left). m.state) left ∙ sym (ap (λ (m : Left). m.state) all.is);
    }
