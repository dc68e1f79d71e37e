-- Demand 2 over lists, from what one run follows and the exchange's own theorem, in each of the jobs that a start took.
use Prim.Native.Nat.{ℕ, suc, ◌+◌, ◌%◌, ◌<◌, ◌≤◌}
use mathlib.Core.Path.{◌≡◌, refl, sym, ap, ap₂, subst, ◌∙◌}
use mathlib.Core.Bool.{true}
use mathlib.Core.List.{List, [], ◌∷◌}
use native.Mathlib.Nat.{le_of_eq, mod-eq_of_lt}
use native.Mathlib.Omega.{arith}
use lib.Dec.{ltb}
use lib.ListN.{length, length-replicate, get_or}
use Rattle.field.specs.Width.{listed, modulus}
use Rattle.field.proofs.Widths.{bounds}
use Rattle.shares.specs.Side.{other}
use Rattle.tape.specs.Dealt.{Matched}
use Rattle.protocol.specs.Work.{work_length}
use Rattle.protocol.specs.Sizes.{count_fits}
use Rattle.protocol.proofs.Halves.{indicator_bit}
use Rattle.protocol.proofs.Right.{right}
use Rattle.rules.specs.Bits.{right_bit}
use Rattle.rules.specs.Tasks.{count_of, task_fits, pairs_of, answer_count}
use Rattle.rules.specs.Answers.{started, spoke, finished}
use Rattle.rules.specs.Batches.{x_in, y_in}
use Rattle.rules.specs.OneByOne.{answer_from}
use Rattle.rules.specs.declared.state.Task.{Task}
use Rattle.rules.specs.declared.state.Task.TheVariants.{Compare, Band}
use Rattle.rules.proofs.Tasks.{bounds_in}
use Rattle.rules.proofs.Batches.{given_at}
use Rattle.rules.proofs.Bands.{band_right}
use Rattle.guarantees.specs.Boxes.{Box, box1, box2, side_of}
use Rattle.guarantees.specs.Keys.{Key}
use Rattle.guarantees.specs.Entries.{Step, wake, start, speak, hear, drop, cut, cut_start, Entry}
use Rattle.guarantees.specs.Run.{Lending, Setting, Said, replied, Event, World, event_at, stepped, run}
use Rattle.guarantees.specs.Premises.{AtFirst, AllDealt, Meets}
use Rattle.guarantees.specs.Maps.{taken_at}
use Rattle.guarantees.specs.Outcomes.{kind_of, is_opening}
use Rattle.guarantees.proofs.Outcomes.{opening_of, shares_are}
use Rattle.guarantees.specs.Correctness.{Happened, Begun, Exchanged, Right, Correctness}
use Rattle.guarantees.specs.Jobs.{blank, sent_by, answer_in, answers_by}
use Rattle.guarantees.proofs.Openings.{opening, takes_lem, one_more, next_place}
use Rattle.guarantees.proofs.Once.{taken_there, Marked, marked_next, Once, once_run, SomeEach, some_run}
use Rattle.guarantees.proofs.Books.{Took, start_at, start_took}
use Rattle.guarantees.proofs.Jobs.{InOrder, pairs_at}
use Rattle.guarantees.proofs.First.{invariant_first, marked_first, once_first, some_first}
use Rattle.guarantees.proofs.Invariant.{Uttered, Answered, Conforms, Invariant, Booked, invariant_next}

-- ---- the shares that opened each job, as they were lent

abbrev book : (Box → ℕ → Lending) → List Event → Box → Key → Lending
book shares log c key = shares c (taken_at log c key.first)

module _ (g : Setting) (pair : ℕ) (orders : InOrder g pair) (log : List Event) where
  booked : (es : List Entry) (place : ℕ) (w : World) (c : Box) (step : Step) → Marked w → length w.log ≡ place
      → (run g (suc place) (stepped g place w c step) es).log ≡ log → Booked g (book g.shares log) (Took log) place w c step
  booked es place w c (wake n side p) marked at end = tt
  booked es place w c (start first task lent) marked at end =
      λ cause. (
        λ side. ap (λ (k : ℕ). pairs_of side task (g.shares c k)) (start_at g log es place w c marked at first task lent end cause),
        start_took g log es place w c marked at first task lent end cause,
      )
  booked es place w c (speak first round lent out) marked at end = tt
  booked es place w c (hear first round lent incoming) marked at end = tt
  booked es place w c drop marked at end = tt
  booked es place w c (cut room) marked at end = tt
  booked es place w c (cut_start first task lent at_mark mark room) marked at end = tt

  -- a whole run
  ran : (es : List Entry) (place : ℕ) (w : World) → Invariant g (book g.shares log) (Took log) w → Marked w → length w.log ≡ place
      → (run g place w es).log ≡ log → Meets g place w es → Invariant g (book g.shares log) (Took log) (run g place w es)
  ran [] place w f marked at end meets = f
  ran (e ∷ es) place w f marked at end meets =
      ran es (suc place) (stepped g place w e.box e.step)
      (invariant_next g (book g.shares log) (Took log) pair orders place w e.box e.step f meets.0 (booked es place w e.box e.step marked at end))
      (marked_next w _ (one_more g place w e.box e.step) marked) (next_place g place w e.box e.step ∙ ap suc at) end meets.1

-- ---- the place that was found

start_there : (log : List Event) (c : Box) (key : Key) → Took log c key → Happened log (taken_at log c key.first) c key (replied started)
start_there log c key t =
    let e = event_at log (taken_at log c key.first) in
    let o = opening c key.first e (taken_there log c key.first t.within) in
    record { within = t.within; box = sym o.box; under = t.key_is; said_is = opening_of e.said o.told }

only_start : (log : List Event) → Once log → SomeEach log → (c : Box) (key : Key) (place : ℕ) → Happened log place c key (replied started)
    → taken_at log c key.first ≡ place
only_start log once some c key place t =
    let e = event_at log place in
    let told : is_opening (kind_of e.said) ≡ true = ap (λ (s : Said). is_opening (kind_of s)) t.said_is in
    let least : 0 < count_of key.task = rw (← t.under) (some place told) in
    once c key.first place t.within
    (takes_lem c key.first e (record { box = sym t.box; from = rw t.under (omega arith); below = rw t.under (omega (arith, least)); told = told }))

-- ---- the sum

-- the bit of one of the jobs, for the shares of x and y of box 1 and box 2
abbrev job_bit : ℕ → List ℕ → List ℕ → ℕ → ℕ
job_bit n pairs1 pairs2 i = right_bit n (Compare 1) pairs1 pairs2 i

-- blank works have their room
blank_room : (n : ℕ) → work_length n ≤ length (blank n).own
blank_room n = le_of_eq (sym (length-replicate (work_length n) 0))

-- the exchange's theorem in it
exchange_right : (tapes : Box → ℕ → ℕ → List ℕ) (lent : Box → Key → Lending) (pair : ℕ) (key : Key) (i : ℕ) → listed key.width ≡ true
    → Matched key.width pair (key.first + i) (side_of box1) (tapes box1 (key.first + i) key.width) (tapes box2 (key.first + i) key.width)
    → y_in (pairs_at lent box1 key) i < modulus key.width → y_in (pairs_at lent box2 key) i < modulus key.width
    → (answer_in tapes lent box1 key i + answer_in tapes lent box2 key i) % modulus key.width
    ≡ job_bit key.width (pairs_at lent box1 key) (pairs_at lent box2 key) i
unfolding other
exchange_right tapes lent pair key i l m l1 l2 =
    let pairs1 = pairs_at lent box1 key in
    let pairs2 = pairs_at lent box2 key in
    let test = ltb ((x_in pairs1 i + x_in pairs2 i) % modulus key.width) ((y_in pairs1 i + y_in pairs2 i) % modulus key.width) in
    let room = blank_room key.width in
    (right m (x_in pairs1 i) (y_in pairs1 i) (x_in pairs2 i) (y_in pairs2 i) l1 l2 (blank key.width) room room).same
    ∙ mod-eq_of_lt (omega (arith, indicator_bit test, bounds l))

-- so what each box answers, each comparison's share or a band's from its two, adds up to the bit for the shares that were lent
answers_right : (n : ℕ) (task : Task) (lent1 lent2 : Lending) (each1 each2 : ℕ → ℕ) → listed n ≡ true → task_fits n task ≡ true
    → ((i : ℕ) → i < count_of task → (each1 i + each2 i) % modulus n ≡ job_bit n (pairs_of 1 task lent1) (pairs_of 2 task lent2) i)
    → (i : ℕ) → i < answer_count task → (answer_from n 1 task each1 i + answer_from n 2 task each2 i) % modulus n ≡ right_bit n task lent1 lent2 i
answers_right n (Compare count) lent1 lent2 each1 each2 l fits sums i less = sums i less
answers_right n (Band low high) lent1 lent2 each1 each2 l fits sums i less =
    band_right n low high i lent1 lent2 each1 each2 l (bounds_in n low high fits) (sums 0 (omega arith)) (sums 1 (omega arith))

-- ---- a run that meets the premises

all_orders : (g : Setting) (pair : ℕ) → AllDealt g.tapes box1 pair → InOrder g pair
unfolding other
all_orders g pair dealt box1 number n l = (dealt number n l).own_order
all_orders g pair dealt box2 number n l = (dealt number n l).others_order

module _ (g : Setting) (pair : ℕ) (w : World) (entries : List Entry) (at : AtFirst w) (dealt : AllDealt g.tapes box1 pair)
    (meets : Meets g 0 w entries) where
  abbrev log : List Event
  log = (run g 0 w entries).log

  abbrev lent : Box → Key → Lending
  lent = book g.shares log

  whole : Invariant g lent (Took log) (run g 0 w entries)
  whole =
      ran g pair (all_orders g pair dealt) log entries 0 w (invariant_first g lent (Took log) w at) (marked_first w at)
      (ap length at.no_events) refl meets

  only : (b : Box) (key : Key) (place : ℕ) → Happened log place b key (replied started) → taken_at log b key.first ≡ place
  only =
      only_start log (once_run g 0 w entries (marked_first w at) (once_first w at)) (some_run g 0 w entries (some_first w at))

  begun : (b : Box) (key : Key) → Took log b key → Begun log b key
  begun b key t = record { place = taken_at log b key.first; start = start_there log b key t }

  -- the answers of a job are the exchanges'
  record AnswersOf (b : Box) (key : Key) (vs : List ℕ) : Type 0 where
    width : listed key.width ≡ true
    own : Took log b key
    is : vs ≡ answers_by g.tapes lent b key
    y_fits : (i : ℕ) → i < count_of key.task → y_in (pairs_at lent b key) i < modulus key.width
    counted : count_fits (count_of key.task) ≡ true

  answered : (b : Box) (place : ℕ) (key : Key) (vs : List ℕ) → Happened log place b key (replied (finished vs)) → AnswersOf b key vs
  answered b place key vs t =
      let e = event_at log place in
      let a : Answered g lent (Took log) e = subst (λ (s : Said). Conforms g lent (Took log) e (kind_of s)) t.said_is (whole.events place) in
      record {
        width = rw (← t.under) a.width;
        own = rw (← t.box, ← t.under) a.own;
        is = shares_are (sym t.said_is ∙ a.said_is) ∙ a.is ∙ rw (t.box, t.under);
        y_fits = rw (← t.box, ← t.under) a.y_fits;
        counted = rw (← t.under) a.counted;
      }

  answer_at : (b : Box) (key : Key) (vs : List ℕ) → AnswersOf b key vs → (i : ℕ) → i < answer_count key.task
      → get_or vs i 0 ≡ answer_from key.width (side_of b) key.task (answer_in g.tapes lent b key) i
  answer_at b key vs a i less =
      ap (λ (l : List ℕ). get_or l i 0) a.is ∙ given_at key.width (side_of b) (answer_in g.tapes lent b key) key.task i a.counted less

  exchanged : Exchanged g log
  exchanged =
      record {
        book = lent;
        lent = λ b place key t. ap (g.shares b) (only b key place t);
        messages = spoken;
        answers = λ b place key vs t. (begun b key (answered b place key vs t).own, (answered b place key vs t).is);
      }
    where
      spoken : (b : Box) (place : ℕ) (key : Key) (count : ℕ) → Happened log place b key (replied (spoke count))
          → Begun log b key × ((event_at log place).spoken ≡ sent_by g.tapes lent b key (event_at log place).round)
      spoken b place key count t =
          let e = event_at log place in
          let u : Uttered g lent (Took log) e = subst (λ (s : Said). Conforms g lent (Took log) e (kind_of s)) t.said_is (whole.events place) in
          (begun b key (rw (← t.box, ← t.under) u.own), u.words ∙ rw (t.box, t.under))

  right_sum : (place1 place2 : ℕ) (key : Key) (vs1 vs2 : List ℕ) → Happened log place1 box1 key (replied (finished vs1))
      → Happened log place2 box2 key (replied (finished vs2)) → Right g log key vs1 vs2
  right_sum place1 place2 key vs1 vs2 t1 t2 =
      record {
        place = λ c. taken_at log c key.first;
        opened = λ c. start_there log c key (took c);
        only = λ c place t. sym (only c key place t);
        sum = added;
      }
    where
      a1 : AnswersOf box1 key vs1
      a1 = answered box1 place1 key vs1 t1

      a2 : AnswersOf box2 key vs2
      a2 = answered box2 place2 key vs2 t2

      took : (c : Box) → Took log c key
      took box1 = a1.own
      took box2 = a2.own

      added : (i : ℕ) → i < answer_count key.task
          → (get_or vs1 i 0 + get_or vs2 i 0) % modulus key.width
          ≡ right_bit key.width key.task (g.shares box1 (taken_at log box1 key.first)) (g.shares box2 (taken_at log box2 key.first)) i
      added i less =
          ap₂ (λ (u v : ℕ). (u + v) % modulus key.width) (answer_at box1 key vs1 a1 i less) (answer_at box2 key vs2 a2 i less)
          ∙ answers_right key.width key.task (lent box1 key) (lent box2 key) (answer_in g.tapes lent box1 key) (answer_in g.tapes lent box2 key)
          a1.width a1.own.fits
          (λ k low.
          exchange_right g.tapes lent pair key k a1.width (dealt (key.first + k) key.width a1.width) (a1.y_fits k low) (a2.y_fits k low))
          i less

pub correctness : Correctness
correctness g pair w entries at dealt meets =
    record { exchanged = exchanged g pair w entries at dealt meets; right = right_sum g pair w entries at dealt meets }
