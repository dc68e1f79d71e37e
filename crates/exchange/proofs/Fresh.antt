-- Two boxes at first, each with fresh tapes: which refusal a job of one comparison, and a band, gives first, and what it answers.
use Prim.Native.Nat.{ℕ, ◌+◌, ◌%◌, ◌<◌, ◌≤◌}
use mathlib.Core.Path.{◌≡◌, refl, ◌∙◌}
use mathlib.Core.Bool.{Bool, true, false, ◌&&◌, cond}
use mathlib.Core.List.{List}
use native.Mathlib.Omega.{arith}
use borrow.Author.Tests.{le-leb, lt-ltb, eq-eqb, eqb-true}
use lib.Dec.{eqb, leb, ltb}
use lib.ListN.{length, get_or, length-replicate}
use Rattle.lists.proofs.Joined.{part_one}
use Rattle.field.specs.Width.{listed, modulus}
use Rattle.field.proofs.Widths.{bounds}
use Rattle.shares.specs.Side.{is_side, other}
use Rattle.shares.specs.Share.{constant_share}
use Rattle.shares.proofs.Sides.{constant_below}
use Rattle.tape.specs.Layout.{tape_length}
use Rattle.tape.specs.Order.{in_order}
use Rattle.tape.specs.Dealt.{Dealt}
use Rattle.tape.proofs.Dealing.{own_readable, others_readable}
use Rattle.encoding.specs.Matching.{indicator}
use Rattle.protocol.specs.Work.{work_length}
use Rattle.protocol.specs.Rounds.{round_words}
use Rattle.protocol.specs.Sizes.{most_jobs, count_fits, tape_for, round_for, work_for}
use Rattle.protocol.proofs.Lengths.{words_most}
use Rattle.tally.specs.Tally.{tally_fits, tapes_of, is_fresh, late, fresh_count}
use Rattle.rules.specs.Modes.{in_range, mode_of, is_asleep}
use Rattle.rules.specs.Batches.{no_batch, tape_part}
use Rattle.rules.specs.Grounds.{wake_ground, start_ground}
use Rattle.rules.specs.Answers.{fresh}
use Rattle.rules.specs.Calls.{outcome, wake_rule, start_rule}
use Rattle.rules.specs.Tasks.{bounds_fit}
use Rattle.rules.proofs.Tasks.{bounds_in}
use Rattle.rules.specs.declared.state.Phase.TheVariants.{Idle}
use Rattle.rules.specs.declared.state.Task.TheVariants.{Compare, Band}
use Rattle.rules.specs.declared.state.State.{State}
use Rattle.exchange.specs.declared.Shares.{Shares}
use Rattle.exchange.specs.Opening.{first_state, refusal_of, begun}
use Rattle.exchange.specs.Jobs.{Lent, lent, comes, job_refusal, job_of, DealtAt, DealtFor}
use Rattle.exchange.specs.Memory.{one_fresh, two_fresh, blank_work, blank_words, shares_of, fresh_lent, band_lent, fresh_job, fresh_band}
use Rattle.exchange.specs.Rooms.{blank_works, blank_messages}
use Rattle.exchange.proofs.Begun.{awake}
use Rattle.exchange.proofs.Right.{job_right}

zero_unlisted : listed 0 ≡ false
unfolding listed
zero_unlisted = refl

asleep : is_asleep (mode_of first_state) ≡ true
unfolding mode_of in_range
asleep = rw zero_unlisted refl

abbrev idle : ℕ → ℕ → ℕ → List ℕ → State
idle n side pair tally = awake n side pair tally Idle no_batch

-- a box at first wakes
module _ (n side pair : ℕ) (tally : List ℕ) (width : listed n ≡ true) (box : is_side side ≡ true) (tallied : tally_fits (length tally) ≡ true) where
  woken : wake_rule first_state n side pair tally ≡ outcome (fresh (fresh_count tally)) (idle n side pair tally) tally
  unfolding wake_rule wake_ground
  woken = rw (asleep, width, box, tallied) refl

  stays_idle : mode_of (idle n side pair tally) ≡ Idle
  unfolding mode_of in_range
  stays_idle = rw (width, box, tallied) refl

-- a job of one comparison
abbrev begins : ℕ → ℕ → ℕ → Shares → List ℕ → List ℕ → ℕ
begins n side pair own tape work = refusal_of (begun first_state n side pair 0 (Compare 1) (shares_of own) tape work one_fresh).reply

module _ (n side pair : ℕ) (own : Shares) (tape work : List ℕ) (width : listed n ≡ true) (box : is_side side ≡ true)
    (long : length tape ≡ tape_length n) (order : in_order n pair side 0 tape ≡ true) (room : work_length n ≤ length work) where
  enough : leb (work_for n 1) (length work) ≡ true
  enough = le-leb (work_for n 1) (length work) (omega (arith, room))

  whole : eqb (length tape) (tape_for n 1) ≡ true
  whole = eq-eqb (length tape) (tape_for n 1) (omega (arith, long))

  ordered : in_order n pair side 0 (tape_part n tape 0) ≡ true
  ordered = rw (part_one tape (tape_length n) long) order

  -- of all that a start looks at, only the shares can be wrong
  share_test : (a b : Bool) → ltb own.x (modulus n) ≡ a → ltb own.y (modulus n) ≡ b
      → refusal_of (start_rule (idle n side pair one_fresh) 0 (Compare 1) (shares_of own) tape work one_fresh).reply ≡ cond (a && b) 0 9
  unfolding start_rule start_ground count_fits tally_fits tapes_of is_fresh late
  share_test true true ea eb = rw (stays_idle n side pair one_fresh width box refl, ea, eb, whole, ordered, enough) refl
  share_test true false ea eb = rw (stays_idle n side pair one_fresh width box refl, ea, eb) refl
  share_test false b ea eb = rw (stays_idle n side pair one_fresh width box refl, ea) refl

  shares_decide : begins n side pair own tape work ≡ cond (ltb own.x (modulus n) && ltb own.y (modulus n)) 0 9
  unfolding begun tally_fits
  shares_decide = rw (woken n side pair one_fresh width box refl) (share_test (ltb own.x (modulus n)) (ltb own.y (modulus n)) refl refl)

-- box 1's refusal comes before box 2's
abbrev pub nine : Bool → ℕ
nine fits = cond fits 0 9

joined : (a b c : Bool) → cond (eqb (nine a) 0) (cond (eqb (nine (b && c)) 0) 0 (nine (b && c))) (nine a) ≡ nine (a && b && c)
joined true true true = refl
joined true true false = refl
joined true false c = refl
joined false b c = refl

-- which job, and with what memory
module _ (n pair : ℕ) (box1 box2 : Shares) (t1 t2 w1 w2 o1 o2 : List ℕ) where
  abbrev job : ℕ
  job = job_refusal n pair 0 (Compare 1) (lent (shares_of box1) t1 w1 one_fresh o1) (lent (shares_of box2) t2 w2 one_fresh o2)

  -- with tapes dealt by the rules and with room, only the shares can be wrong: 9
  share_refusal : Dealt n pair 0 t1 t2 → work_length n ≤ length w1 → work_length n ≤ length w2
      → round_words n 1 ≤ length o1 → round_words n 1 ≤ length o2
      → job ≡ nine (ltb box1.x (modulus n) && ltb box1.y (modulus n) && ltb box2.x (modulus n) && ltb box2.y (modulus n))
  unfolding job_refusal is_side other
  share_refusal m room1 room2 out1 out2 =
      let r1 = own_readable m in
      let r2 = others_readable m in
      rw (
        shares_decide n 1 pair box1 t1 w1 r1.width refl r1.long m.own_order room1,
        shares_decide n 2 pair box2 t2 w2 r1.width refl r2.long m.others_order room2,
        le-leb (round_for n 1 1) (length o1) (omega (arith, out1)),
        le-leb (round_for n 1 1) (length o2) (omega (arith, out2)),
      )
      (joined (ltb box1.x (modulus n) && ltb box1.y (modulus n)) (ltb box2.x (modulus n)) (ltb box2.y (modulus n)))

-- ---- with memory for any width

work_room : (n : ℕ) → listed n ≡ true → work_length n ≤ length blank_work
unfolding blank_work
work_room n width = omega (arith, bounds width, length-replicate {A = ℕ} (work_length 31) 0)

widest : round_words 31 1 ≡ 2889
unfolding round_words
widest = refl

words_room : (n : ℕ) → listed n ≡ true → round_words n 1 ≤ length blank_words
unfolding blank_words
words_room n width = omega (arith, words_most n 1 width, widest, length-replicate {A = ℕ} (round_words 31 1) 0)

module _ (n pair : ℕ) (box1 box2 : Shares) (t1 t2 : List ℕ) where
  pub fresh_share_refusal : Dealt n pair 0 t1 t2
      → (fresh_job n pair 0 box1 box2 t1 t2).refusal
      ≡ nine (ltb box1.x (modulus n) && ltb box1.y (modulus n) && ltb box2.x (modulus n) && ltb box2.y (modulus n))
  unfolding fresh_job job_of
  fresh_share_refusal m =
      let width = (own_readable m).width in
      share_refusal n pair box1 box2 t1 t2 blank_work blank_work blank_words blank_words m
      (work_room n width) (work_room n width) (words_room n width) (words_room n width)

  -- the tapes are those of the first comparison
  dealt_first : Dealt n pair 0 t1 t2 → DealtAt n pair 0 t1 t2 0
  dealt_first m = rw (part_one t1 (tape_length n) (own_readable m).long, part_one t2 (tape_length n) (others_readable m).long) m

  abbrev less : ℕ
  less = indicator (ltb ((box1.x + box2.x) % modulus n) ((box1.y + box2.y) % modulus n))

  -- on dealt tapes the answer is right, and 0 where the job is refused
  pub fresh_answer : ((fresh_job n pair 0 box1 box2 t1 t2).refusal ≡ 0 → Dealt n pair 0 t1 t2)
      → (fresh_job n pair 0 box1 box2 t1 t2).less ≡ cond (eqb (fresh_job n pair 0 box1 box2 t1 t2).refusal 0) less 0
  unfolding fresh_job job_of
  fresh_answer dealt = go (eqb refusal 0) refl
    where
      lent1 : Lent
      lent1 = fresh_lent box1 t1

      lent2 : Lent
      lent2 = fresh_lent box2 t2

      refusal : ℕ
      refusal = job_refusal n pair 0 (Compare 1) lent1 lent2

      go : (t : Bool) → eqb refusal 0 ≡ t → get_or (job_of n pair 0 (Compare 1) lent1 lent2).bits 0 0 ≡ cond (eqb refusal 0) less 0
      go true e =
          let zero = eqb-true refusal 0 e in
          job_right n pair 0 (Compare 1) lent1 lent2 zero 0 (omega arith) (dealt_first (dealt zero)) ∙ rw e
      go false e = rw e

  -- so it is taken and right where the shares are in range
  pub fresh_right : Dealt n pair 0 t1 t2 → box1.x < modulus n → box1.y < modulus n → box2.x < modulus n → box2.y < modulus n
      → let job = fresh_job n pair 0 box1 box2 t1 t2 in
      (job.refusal ≡ 0) × (job.less ≡ less)
  fresh_right m lx1 ly1 lx2 ly2 =
      let taken : (fresh_job n pair 0 box1 box2 t1 t2).refusal ≡ 0 =
      fresh_share_refusal m ∙ rw (lt-ltb _ _ lx1, lt-ltb _ _ ly1, lt-ltb _ _ lx2, lt-ltb _ _ ly2) refl in
      (taken, fresh_answer (λ none. m) ∙ rw taken refl)

-- ---- a band, on two fresh tapes of each box

module _ (n side pair low high a : ℕ) (tapes : List ℕ) (width : listed n ≡ true) (box : is_side side ≡ true) where
  -- a box refuses it for its bounds whatever else it is given
  bounds_refused : (first : ℕ) → bounds_fit n low high ≡ false
      → refusal_of (comes n side pair first (Band low high) (band_lent a tapes)).reply ≡ 17
  unfolding begun start_rule start_ground tally_fits
  bounds_refused first wrong =
      rw (woken n side pair two_fresh width box refl, stays_idle n side pair two_fresh width box refl, wrong) refl

  eight_works : leb (work_for n 2) (length blank_works) ≡ true
  unfolding blank_works
  eight_works =
      le-leb (work_for n 2) (length blank_works) (omega (arith, bounds width, length-replicate {A = ℕ} (work_for 31 most_jobs) 0))

  band_goes : bounds_fit n low high ≡ true → a < modulus n → length tapes ≡ tape_for n 2
      → in_order n pair side 0 (tape_part n tapes 0) ≡ true → in_order n pair side 1 (tape_part n tapes 1) ≡ true
      → refusal_of (comes n side pair 0 (Band low high) (band_lent a tapes)).reply ≡ 0
  unfolding begun start_rule start_ground tally_fits tapes_of is_fresh late
  band_goes fits share long order0 order1 =
      let b = bounds_in n low high fits in
      rw (
        woken n side pair two_fresh width box refl,
        stays_idle n side pair two_fresh width box refl,
        fits,
        lt-ltb a (modulus n) share,
        lt-ltb (constant_share side low) (modulus n) (constant_below side (omega (arith, b.0, b.1))),
        lt-ltb (constant_share side high) (modulus n) (constant_below side b.1),
        eq-eqb (length tapes) (tape_for n 2) long,
        order0,
        order1,
        eight_works,
      )
      refl

eight_messages : (n : ℕ) → listed n ≡ true → leb (round_for n 2 1) (length blank_messages) ≡ true
unfolding blank_messages
eight_messages n width =
    le-leb (round_for n 2 1) (length blank_messages)
    (omega (arith, words_most n 1 width, widest, length-replicate {A = ℕ} (round_for 31 most_jobs 1) 0))

module _ (n pair low high a1 a2 : ℕ) (t1 t2 : List ℕ) where
  pub fresh_band_refused : (first : ℕ) → listed n ≡ true → bounds_fit n low high ≡ false
      → (fresh_band n pair first low high a1 a2 t1 t2).refusal ≡ 17
  unfolding fresh_band job_of job_refusal is_side
  fresh_band_refused first width wrong = rw (bounds_refused n 1 pair low high a1 t1 width refl first wrong) refl

  -- with dealt tapes, bounds and shares in range it is taken
  pub fresh_band_taken : DealtFor n pair 0 (Band low high) t1 t2 0 → length t1 ≡ tape_for n 2 → length t2 ≡ tape_for n 2
      → bounds_fit n low high ≡ true → a1 < modulus n → a2 < modulus n → (fresh_band n pair 0 low high a1 a2 t1 t2).refusal ≡ 0
  unfolding fresh_band job_of job_refusal is_side other
  fresh_band_taken m long1 long2 fits share1 share2 =
      let width = (own_readable m.0).width in
      rw (
        band_goes n 1 pair low high a1 t1 width refl fits share1 long1 m.0.own_order m.1.own_order,
        band_goes n 2 pair low high a2 t2 width refl fits share2 long2 m.0.others_order m.1.others_order,
        eight_messages n width,
      )
      refl

  -- and where it is taken, on dealt tapes its answer is right
  pub fresh_band_right : (first : ℕ) → (fresh_band n pair first low high a1 a2 t1 t2).refusal ≡ 0
      → DealtFor n pair first (Band low high) t1 t2 0
      → (fresh_band n pair first low high a1 a2 t1 t2).less
      ≡ indicator (ltb low ((a1 + a2) % modulus n) && ltb ((a1 + a2) % modulus n) high)
  unfolding fresh_band job_of
  fresh_band_right first taken m =
      job_right n pair first (Band low high) (band_lent a1 t1) (band_lent a2 t2) taken 0 (omega arith) m
