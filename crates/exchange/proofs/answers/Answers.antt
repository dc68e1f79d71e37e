use Rattle.std.proofs.Common.{rules}
use Prim.Native.Nat.{ℕ, ◌+◌, ◌≤◌}
use mathlib.Core.Path.{◌≡◌, refl, sym, ap, subst, ◌∙◌}
use mathlib.Core.List.{List}
use native.Mathlib.Omega.{arith}
use lib.ListN.{length}
use Rattle.std.specs.Prelude.{Option, Some, Result, Ok}
use Rattle.refusals.specs.declared.Refusal.{Refusal}
use Rattle.protocol.specs.Products.{Party}
use Rattle.protocol.specs.Exchange.{Both, exchanged}
use Rattle.protocol.specs.Rounds.{earlier_rounds, last_round}
use Rattle.protocol.specs.Sizes.{round_for}
use Rattle.rules.specs.Answers.{finished, heard_or_finished, reply_of}
use Rattle.rules.specs.Tasks.{count_of}
use Rattle.rules.specs.Batches.{party_of, joined_message, answers_given}
use Rattle.rules.specs.Calls.{Result as Called, outcome, heard_after}
use Rattle.rules.specs.declared.state.State.{State}
use Rattle.rules.proofs.Batches.{each_same}
use Rattle.exchange.specs.Boxes.{works_of, answers1, answers2}
use Rattle.exchange.proofs.Exchanges.{more_own, more_others, last_own, last_others}
use Rattle.exchange.proofs.Told.{told_shares}
use Rattle.exchange.proofs.Course.{Course, course_first, course_width, course_count, course_room, course_tells, course_next, course_last}
use Rattle.exchange.proofs.answers.Goals.{After-loop-heard, At-loop-heard}
use Rattle.exchange.proofs.answers.Goals as goal

-- room for any round, and one width and count
record Fits (l : At-loop-heard) (round : ℕ) : Type 0 where
  out1 : round_for l.loop-heard.s1.n (count_of l.loop-heard.s1.batch.task) round ≤ length l.loop-heard.o1
  out2 : round_for l.loop-heard.s2.n (count_of l.loop-heard.s2.batch.task) round ≤ length l.loop-heard.o2
  width : l.loop-heard.s1.n ≡ l.loop-heard.s2.n
  count : count_of l.loop-heard.s1.batch.task ≡ count_of l.loop-heard.s2.batch.task

fits : (l : At-loop-heard) (round : ℕ) → Fits l round
fits l round =
    let inv = l.loop-heard.invariant in
    let same = l.requires.same in
    record {
      out1 = course_room inv.box1 round l.loop-heard.o1 (omega (arith, l.requires.box1.1, inv.same_o1));
      out2 = course_room inv.box2 round l.loop-heard.o2 (omega (arith, l.requires.box2.1, inv.same_o2));
      width = course_width inv.box1 ∙ same.0 ∙ sym (course_width inv.box2);
      count = course_count inv.box1 ∙ same.1 ∙ sym (course_count inv.box2);
    }

-- each box on its course, where the loop ends
module _ (a : After-loop-heard) where
  abbrev box1 : ℕ → Party
  box1 i = party_of a.args.s1.now a.args.t1.now i

  abbrev box2 : ℕ → Party
  box2 i = party_of a.args.s2.now a.args.t2.now i

  abbrev first : ℕ → Both
  first i = works_of a.args.s1.now a.args.s2.now a.args.w1.now a.args.w2.now i

  abbrev both : ℕ → ℕ → Both
  both k i = exchanged (box1 i) (box2 i) (first i) k

  -- all rounds but the last are heard
  all_heard : a.loop-heard.heard ≡ earlier_rounds
  all_heard = omega arith

  ended1 : Course a.args.s1.now a.args.first a.args.t1.now earlier_rounds (λ i. (both earlier_rounds i).own) a.loop-heard.s1 a.loop-heard.w1
  ended1 =
      subst (λ (k : ℕ). Course a.args.s1.now a.args.first a.args.t1.now k (λ i. (both k i).own) a.loop-heard.s1 a.loop-heard.w1) all_heard
      a.loop-heard.invariant.box1

  ended2 : Course a.args.s2.now a.args.first a.args.t2.now earlier_rounds (λ i. (both earlier_rounds i).others) a.loop-heard.s2 a.loop-heard.w2
  ended2 =
      subst (λ (k : ℕ). Course a.args.s2.now a.args.first a.args.t2.now k (λ i. (both k i).others) a.loop-heard.s2 a.loop-heard.w2) all_heard
      a.loop-heard.invariant.box2

  -- the messages of the last round
  abbrev last1 : List ℕ
  last1 = joined_message a.loop-heard.s1 a.args.t1.now a.loop-heard.w1 last_round

  abbrev last2 : List ℕ
  last2 = joined_message a.loop-heard.s2 a.args.t2.now a.loop-heard.w2 last_round

  -- whose hears give the answer shares
  module _ (r : Result (Option (List ℕ)) Refusal) (s : State) (w : List ℕ) where
    abbrev gave : Called
    gave = outcome (reply_of heard_or_finished r) s w

    gives1 : gave ≡ heard_after a.loop-heard.s1 a.args.t1.now a.loop-heard.w1 last_round last2
        → r ≡ Ok (Some (answers1 a.args.s1.now a.args.s2.now a.args.t1.now a.args.t2.now a.args.w1.now a.args.w2.now))
    gives1 e =
        let box = a.args.s1.now in
        let n = box.n in
        let count = count_of box.batch.task in
        let told = course_tells ended2 n count a.requires.same.0 a.requires.same.1 last_round in
        told_shares r _
        (course_last ended1 _ _ told _ s w refl e
        ∙ ap (λ (vs : List ℕ). finished (answers_given n box.side box.batch.task vs))
        (each_same count _ _ (λ i less. sym (last_own (box1 i) (box2 i) (first i)))))

    gives2 : gave ≡ heard_after a.loop-heard.s2 a.args.t2.now a.loop-heard.w2 last_round last1
        → r ≡ Ok (Some (answers2 a.args.s1.now a.args.s2.now a.args.t1.now a.args.t2.now a.args.w1.now a.args.w2.now))
    gives2 e =
        let box = a.args.s2.now in
        let n = box.n in
        let count = count_of box.batch.task in
        let told = course_tells ended1 n count (sym a.requires.same.0) (sym a.requires.same.1) last_round in
        told_shares r _
        (course_last ended2 _ _ told _ s w refl e
        ∙ ap (λ (vs : List ℕ). finished (answers_given n box.side box.batch.task vs))
        (each_same count _ _ (λ i less. sym (last_others (box1 i) (box2 i) (first i)))))

pub loop-heard-init : goal.loop-heard-init
unfolding exchanged
loop-heard-init c =
    let v = c.args in record {
      box1 = course_first v.s1.now v.first v.t1.now v.w1.now c.requires.box1.0;
      box2 = course_first v.s2.now v.first v.t2.now v.w2.now c.requires.box2.0;
      same_w1 = refl;
      same_w2 = refl;
      same_o1 = refl;
      same_o2 = refl;
    }

pub round-requires : goal.round-requires
round-requires c =
    let f = fits (goal.at.round-requires c).At-loop-heard (c.loop-heard.heard + 1) in
    let inv = c.loop-heard.invariant in
    record { box1 = (inv.box1.due, f.out1); box2 = (inv.box2.due, f.out2); same = (f.width, f.count) }

pub loop-heard-preserved : goal.loop-heard-preserved
loop-heard-preserved c =
    let v = c.args in
    let s1 = v.s1.now in
    let s2 = v.s2.now in
    let same = c.requires.same in
    let less = c.loop-heard-test.true in
    let inv = c.loop-heard.invariant in
    let k = c.loop-heard.heard in
    let told1 = course_tells inv.box2 s1.n (count_of s1.batch.task) same.0 same.1 (k + 1) in
    let told2 = course_tells inv.box1 s2.n (count_of s2.batch.task) (sym same.0) (sym same.1) (k + 1) in
    let more1 = λ (i : ℕ). more_own (party_of s1 v.t1.now i) (party_of s2 v.t2.now i) (works_of s1 s2 v.w1.now v.w2.now i) k in
    let more2 = λ (i : ℕ). more_others (party_of s1 v.t1.now i) (party_of s2 v.t2.now i) (works_of s1 s2 v.w1.now v.w2.now i) k in
    record {
      box1 = course_next inv.box1 _ _ told1 _ c.round.new.s1 _ less c.round.ensures.box1.1 _ more1;
      box2 = course_next inv.box2 _ _ told2 _ c.round.new.s2 _ less c.round.ensures.box2.1 _ more2;
      same_w1 = omega (arith, c.round.auto.w1, inv.same_w1);
      same_w2 = omega (arith, c.round.auto.w2, inv.same_w2);
      same_o1 = omega (arith, c.round.auto.o1, inv.same_o1);
      same_o2 = omega (arith, c.round.auto.o2, inv.same_o2);
    }

pub round-heard1-requires : goal.round-heard1-requires
round-heard1-requires c =
    let f = fits (goal.at.round-heard1-requires c).At-loop-heard last_round in
    let a = (goal.at.round-heard1-requires c).After-loop-heard in
    record { box1 = ((ended1 a).due, f.out1); box2 = ((ended2 a).due, f.out2); same = (f.width, f.count) }

pub shares_in-requires : goal.shares_in-requires
shares_in-requires c =
    rw (gives1 (goal.at.shares_in-requires c).After-loop-heard _ c.round-heard1.new.s1 _ c.round-heard1.ensures.box1.1) (search rules)

pub shares_in-requires-2 : goal.shares_in-requires-2
shares_in-requires-2 c =
    rw (gives2 (goal.at.shares_in-requires-2 c).After-loop-heard _ c.round-heard1.new.s2 _ c.round-heard1.ensures.box2.1) (search rules)

pub returns : goal.returns
returns c =
    let a = (goal.at.returns c).After-loop-heard in
    let given1 = gives1 a _ c.round-heard1.new.s1 _ c.round-heard1.ensures.box1.1 in
    let given2 = gives2 a _ c.round-heard1.new.s2 _ c.round-heard1.ensures.box2.1 in
    record { box1 = cc; box2 = cc }
