-- A whole job of both boxes: box 1 comes to it and then box 2, and where neither is refused they exchange all rounds.
use Rattle.std.specs.Prelude.{ℕ, ◌+◌, ◌%◌, Bool, ◌&&◌, cond, List, eqb, leb, length, get_or, replicate, Ok, Err, Result as Answer}
use Rattle.field.specs.Width.{modulus}
use Rattle.tape.specs.Dealt.{Dealt}
use Rattle.protocol.specs.Sizes.{most_jobs, round_for}
use Rattle.rules.specs.Tasks.{count_of, answer_count}
use Rattle.rules.specs.Batches.{each_job, tape_part}
use Rattle.rules.specs.Calls.{Result}
use Rattle.rules.specs.declared.state.Task.{Task}
use Rattle.rules.specs.declared.state.Task.TheVariants.{Compare, Band}
use Rattle.rules.specs.declared.state.State.{State}
use Rattle.refusals.specs.Checks.{ground_of}
use Rattle.refusals.specs.declared.Refusal.{Refusal}
use Rattle.exchange.specs.Opening.{first_state, refusal_of, begun}
use Rattle.exchange.specs.Boxes.{answers1, answers2}

-- a box's shares, x and y of the first comparison, then of the next, or of a band its one share of a, and what it is lent for a job
pub record Lent : Type 0 where
  pub shares : List ℕ
  pub tapes : List ℕ
  pub work : List ℕ
  pub tally : List ℕ
  pub out : List ℕ

abbrev pub lent : List ℕ → List ℕ → List ℕ → List ℕ → List ℕ → Lent
lent shares tapes work tally out = record { shares = shares; tapes = tapes; work = work; tally = tally; out = out }

-- the box of that side comes to the job
abbrev pub comes : ℕ → ℕ → ℕ → ℕ → Task → Lent → Result
comes n side pair first task l = begun first_state n side pair first task l.shares l.tapes l.work l.tally

-- both outs have room for the longest message, the first
abbrev pub roomy : ℕ → Task → List ℕ → List ℕ → Bool
roomy n task o1 o2 = leb (round_for n (count_of task) 1) (length o1) && leb (round_for n (count_of task) 1) (length o2)

-- the sum of the two boxes' answer shares i
abbrev pub answer_sum : ℕ → State → State → List ℕ → List ℕ → List ℕ → List ℕ → ℕ → ℕ
answer_sum n s1 s2 t1 t2 w1 w2 i = (get_or (answers1 s1 s2 t1 t2 w1 w2) i 0 + get_or (answers2 s1 s2 t1 t2 w1 w2) i 0) % modulus n

-- in the order of the comparisons, or a band's one, and 0 past them
abbrev pub opened_bits : ℕ → Task → State → State → List ℕ → List ℕ → List ℕ → List ℕ → List ℕ
opened_bits n task s1 s2 t1 t2 w1 w2 = each_job (answer_count task) (answer_sum n s1 s2 t1 t2 w1 w2)

-- the number of the first refusal, 0 where there is none: box 1's wake and start, box 2's, then the first speaks, which want room (12)
unfoldable pub job_refusal : ℕ → ℕ → ℕ → Task → Lent → Lent → ℕ
job_refusal n pair first task box1 box2 =
    let refusal1 = refusal_of (comes n 1 pair first task box1).reply in
    let refusal2 = refusal_of (comes n 2 pair first task box2).reply in
    cond (eqb refusal1 0) (cond (eqb refusal2 0) (cond (roomy n task box1.out box2.out) 0 12) refusal2) refusal1

-- what a job gives, and what it leaves in the tallies
pub record Ended : Type 0 where
  pub refusal : ℕ
  pub bits : List ℕ
  pub tally1 : List ℕ
  pub tally2 : List ℕ

-- the opened answers, and zeros where the job was refused
abbrev pub no_bits : List ℕ
no_bits = replicate most_jobs 0

abbrev pub bits_of : Answer (List ℕ) Refusal → List ℕ
bits_of (Ok bits) = bits
bits_of (Err refusal) = no_bits

abbrev pub ended : Answer (List ℕ) Refusal → List ℕ → List ℕ → Ended
ended v k1 k2 = record { refusal = ground_of v; bits = bits_of v; tally1 = k1; tally2 = k2 }

-- refused, it answers zeros; and where box 1 is refused, box 2 does not come to the job
unfoldable pub job_of : ℕ → ℕ → ℕ → Task → Lent → Lent → Ended
job_of n pair first task box1 box2 =
    let begun1 = comes n 1 pair first task box1 in
    let begun2 = comes n 2 pair first task box2 in
    let refusal = job_refusal n pair first task box1 box2 in
    record {
      refusal = refusal;
      bits = cond (eqb refusal 0) (opened_bits n task begun1.state begun2.state box1.tapes box2.tapes box1.work box2.work) no_bits;
      tally1 = begun1.buffer;
      tally2 = cond (eqb (refusal_of begun1.reply) 0) begun2.buffer box2.tally;
    }

-- ---- what is right

-- comparison i has a pair of tapes dealt by the rules
abbrev pub DealtAt : ℕ → ℕ → ℕ → List ℕ → List ℕ → ℕ → Type 0
DealtAt n pair first t1 t2 i = Dealt n pair (first + i) (tape_part n t1 i) (tape_part n t2 i)

-- so has all that answer i is of: that comparison, or both of a band
abbrev pub DealtFor : ℕ → ℕ → ℕ → Task → List ℕ → List ℕ → ℕ → Type 0
DealtFor n pair first (Compare count) t1 t2 i = DealtAt n pair first t1 t2 i
DealtFor n pair first (Band low high) t1 t2 i = DealtAt n pair first t1 t2 0 × DealtAt n pair first t1 t2 1
