-- On tapes dealt by the rules the opened answers are right.
use Prim.Native.Nat.{ℕ, ◌+◌, ◌%◌, ◌<◌, ◌≤◌}
use mathlib.Core.Path.{◌≡◌, refl, sym, ap, ap₂, ◌∙◌}
use mathlib.Core.Bool.{Bool, true, false, cond}
use mathlib.Core.List.{List}
use native.Mathlib.Nat.{mod-eq_of_lt}
use native.Mathlib.Omega.{arith}
use borrow.Author.Tests.{eqb-true, eqb-false}
use lib.Dec.{eqb, ltb}
use lib.ListN.{length, get_or}
use Rattle.std.specs.Prelude.{Ok, Err, IfOk, Result as Answer}
use Rattle.field.specs.Width.{modulus}
use Rattle.field.proofs.Widths.{bounds}
use Rattle.shares.specs.Side.{other}
use Rattle.tape.specs.Dealt.{Dealt}
use Rattle.tape.proofs.Dealing.{own_readable}
use Rattle.encoding.specs.Matching.{indicator}
use Rattle.protocol.specs.Work.{work_length}
use Rattle.protocol.specs.Products.{party}
use Rattle.protocol.specs.Sizes.{count_fits}
use Rattle.protocol.specs.Exchange.{answer_own, answer_others}
use Rattle.protocol.proofs.Halves.{indicator_bit}
use Rattle.protocol.proofs.Right.{right}
use Rattle.refusals.specs.declared.Refusal.{Refusal}
use Rattle.rules.specs.Bits.{right_bit}
use Rattle.rules.specs.Tasks.{count_of, pairs_of, answer_count}
use Rattle.rules.specs.Moves.{Asked}
use Rattle.rules.specs.Batches.{each_job, x_in, y_in, tape_part, work_part, answers_given}
use Rattle.rules.specs.OneByOne.{answer_from}
use Rattle.rules.proofs.Batches.{each_at, given_at}
use Rattle.rules.proofs.Bands.{band_right}
use Rattle.rules.specs.declared.state.Task.{Task}
use Rattle.rules.specs.declared.state.Task.TheVariants.{Compare, Band}
use Rattle.rules.specs.declared.state.State.{State}
use Rattle.exchange.specs.Opening.{refusal_of}
use Rattle.exchange.specs.Boxes.{works, answer1, answer2, answers1, answers2}
use Rattle.exchange.specs.Jobs.{Lent, comes, roomy, answer_sum, job_refusal, Ended, ended, job_of, DealtAt, DealtFor}
use Rattle.exchange.proofs.Begun.{Begun, begun_party, begun_room, begun_ready}

pub dealt_right : (n pair number x1 y1 x2 y2 : ℕ) (t1 t2 w1 w2 : List ℕ) → Dealt n pair number t1 t2
    → y1 < modulus n → y2 < modulus n → work_length n ≤ length w1 → work_length n ≤ length w2
    → let box1 = party n 1 x1 y1 t1 in
    let box2 = party n 2 x2 y2 t2 in
    (answer_own box1 box2 (works w1 w2) + answer_others box1 box2 (works w1 w2)) % modulus n
    ≡ indicator (ltb ((x1 + x2) % modulus n) ((y1 + y2) % modulus n))
unfolding other
dealt_right n pair number x1 y1 x2 y2 t1 t2 w1 w2 m ly1 ly2 room1 room2 =
    let t = ltb ((x1 + x2) % modulus n) ((y1 + y2) % modulus n) in
    (right m x1 y1 x2 y2 ly1 ly2 (works w1 w2) room1 room2).same
    ∙ mod-eq_of_lt (omega (arith, indicator_bit t, bounds (own_readable m).width))

-- ---- of two boxes that came to the job

-- the bit of comparison i of the shares in these lists
abbrev compared : ℕ → List ℕ → List ℕ → ℕ → ℕ
compared n pairs1 pairs2 i = right_bit n (Compare 1) pairs1 pairs2 i

-- where the comparisons that an answer is of are right, the answer is
from_right : (n pair first : ℕ) (task : Task) (shares1 shares2 t1 t2 : List ℕ) (each1 each2 : ℕ → ℕ) → Asked n task shares1
    → ((i : ℕ) → i < count_of task → DealtAt n pair first t1 t2 i
    → (each1 i + each2 i) % modulus n ≡ compared n (pairs_of 1 task shares1) (pairs_of 2 task shares2) i)
    → (i : ℕ) → i < answer_count task → DealtFor n pair first task t1 t2 i
    → (answer_from n 1 task each1 i + answer_from n 2 task each2 i) % modulus n ≡ right_bit n task shares1 shares2 i
from_right n pair first (Compare count) shares1 shares2 t1 t2 each1 each2 asked sums i less m = sums i less m
from_right n pair first (Band low high) shares1 shares2 t1 t2 each1 each2 asked sums i less m =
    band_right n low high i shares1 shares2 each1 each2 (own_readable m.0).width asked (sums 0 (omega arith) m.0) (sums 1 (omega arith) m.1)

module _ {n pair first : ℕ} {task : Task} {shares1 shares2 t1 t2 w1 w2 k1 k2 : List ℕ} {s1 s2 : State}
    (b1 : Begun n 1 pair first task shares1 t1 w1 k1 s1) (b2 : Begun n 2 pair first task shares2 t2 w2 k2 s2) where
  -- the answer shares of each comparison
  abbrev each1 : ℕ → ℕ
  each1 = answer1 s1 s2 t1 t2 w1 w2

  abbrev each2 : ℕ → ℕ
  each2 = answer2 s1 s2 t1 t2 w1 w2

  compared_right : (i : ℕ) → i < count_of task → DealtAt n pair first t1 t2 i
      → (each1 i + each2 i) % modulus n ≡ compared n (pairs_of 1 task shares1) (pairs_of 2 task shares2) i
  compared_right i less m =
      let pairs1 = pairs_of 1 task shares1 in
      let pairs2 = pairs_of 2 task shares2 in
      let width1 = ap (λ (s : State). s.n) b1.state in
      let width2 = ap (λ (s : State). s.n) b2.state in
      rw (begun_party b1 i less, begun_party b2 i less, width1, width2)
      (dealt_right n pair (first + i) (x_in pairs1 i) (y_in pairs1 i) (x_in pairs2 i) (y_in pairs2 i)
      (tape_part n t1 i) (tape_part n t2 i) (work_part n w1 i) (work_part n w2 i) m
      (b1.y_fits i less) (b2.y_fits i less) (begun_room b1 i less) (begun_room b2 i less))

  -- each box's answer share i, from those of its comparisons
  given1 : (i : ℕ) → i < answer_count task → get_or (answers1 s1 s2 t1 t2 w1 w2) i 0 ≡ answer_from n 1 task each1 i
  given1 i less =
      ap (λ (s : State). get_or (answers_given s.n s.side s.batch.task (each_job (count_of s.batch.task) each1)) i 0) b1.state
      ∙ given_at n 1 each1 task i b1.counted less

  given2 : (i : ℕ) → i < answer_count task → get_or (answers2 s1 s2 t1 t2 w1 w2) i 0 ≡ answer_from n 2 task each2 i
  given2 i less =
      ap (λ (s : State). get_or (answers_given s.n s.side s.batch.task (each_job (count_of s.batch.task) each2)) i 0) b2.state
      ∙ given_at n 2 each2 task i b2.counted less

  pub begun_right : (i : ℕ) → i < answer_count task → DealtFor n pair first task t1 t2 i
      → answer_sum n s1 s2 t1 t2 w1 w2 i ≡ right_bit n task shares1 shares2 i
  begun_right i less m =
      ap₂ (λ (u v : ℕ). (u + v) % modulus n) (given1 i less) (given2 i less)
      ∙ from_right n pair first task shares1 shares2 t1 t2 each1 each2 b1.asked compared_right i less m

-- ---- of a whole job

-- neither box was refused
record Taken (refusal1 refusal2 : ℕ) : Type 0 where
  none1 : refusal1 ≡ 0
  none2 : refusal2 ≡ 0

taken : (refusal1 refusal2 : ℕ) (room : Bool) → cond (eqb refusal1 0) (cond (eqb refusal2 0) (cond room 0 12) refusal2) refusal1 ≡ 0
    → Taken refusal1 refusal2
taken refusal1 refusal2 room = go (eqb refusal1 0) (eqb refusal2 0) refl refl
  where
    go : (a b : Bool) → eqb refusal1 0 ≡ a → eqb refusal2 0 ≡ b → cond a (cond b (cond room 0 12) refusal2) refusal1 ≡ 0 → Taken refusal1 refusal2
    go true true ea eb e = record { none1 = eqb-true refusal1 0 ea; none2 = eqb-true refusal2 0 eb }
    go true false ea eb e = absurd (eqb-false refusal2 0 eb e)
    go false b ea eb e = absurd (eqb-false refusal1 0 ea e)

answers_fit : (task : Task) → count_fits (count_of task) ≡ true → count_fits (answer_count task) ≡ true
unfolding count_fits
answers_fit (Compare count) fits = fits
answers_fit (Band low high) fits = refl

pub job_right : (n pair first : ℕ) (task : Task) (box1 box2 : Lent) → job_refusal n pair first task box1 box2 ≡ 0
    → (i : ℕ) → i < answer_count task → DealtFor n pair first task box1.tapes box2.tapes i
    → get_or (job_of n pair first task box1 box2).bits i 0 ≡ right_bit n task box1.shares box2.shares i
unfolding job_of job_refusal
job_right n pair first task box1 box2 zero i less m =
    let come1 = comes n 1 pair first task box1 in
    let come2 = comes n 2 pair first task box2 in
    let t = taken (refusal_of come1.reply) (refusal_of come2.reply) (roomy n task box1.out box2.out) zero in
    let b1 = begun_ready n 1 pair first task box1.shares box1.tapes box1.work box1.tally t.none1 in
    let b2 = begun_ready n 2 pair first task box2.shares box2.tapes box2.work box2.tally t.none2 in
    let sum = answer_sum n come1.state come2.state box1.tapes box2.tapes box1.work box2.work in
    rw zero (each_at (answer_count task) sum i (answers_fit task b1.counted) less ∙ begun_right b1 b2 i less m)

-- of what came of it
pub ended_right : (n pair first : ℕ) (task : Task) (box1 box2 : Lent) (v : Answer (List ℕ) Refusal) (k1 k2 : List ℕ)
    → ended v k1 k2 ≡ job_of n pair first task box1 box2
    → IfOk v (λ bits. (i : ℕ) → i < answer_count task → DealtFor n pair first task box1.tapes box2.tapes i
    → get_or bits i 0 ≡ right_bit n task box1.shares box2.shares i)
unfolding job_of
ended_right n pair first task box1 box2 (Ok bits) k1 k2 e =
    λ i less m.
    ap (λ (j : Ended). get_or j.bits i 0) e
    ∙ job_right n pair first task box1 box2 (sym (ap (λ (j : Ended). j.refusal) e)) i less m
ended_right n pair first task box1 box2 (Err refusal) k1 k2 e = tt
