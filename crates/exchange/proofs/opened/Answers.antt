-- `exchange::opened` meets its contract: an out that is too short is refused, and otherwise the answer shares are added.
use Prim.Native.Nat.{ℕ, ◌+◌, ◌%◌, ◌<◌, ◌≤◌}
use mathlib.Core.Path.{◌≡◌, refl, sym, ap, ap₂, subst, ◌∙◌}
use mathlib.Core.Bool.{true}
use mathlib.Core.List.{List}
use borrow.Author.Tests.{leb-true, not-true, not-false}
use lib.Dec.{leb}
use lib.ListN.{length, get_or}
use Rattle.lists.specs.Tabulate.{tabulate}
use Rattle.lists.proofs.Tests.{and_left, and_right}
use Rattle.field.specs.Width.{modulus}
use Rattle.protocol.specs.Sizes.{most_jobs, round_for}
use Rattle.rules.specs.Tasks.{count_of, answer_count}
use Rattle.rules.specs.Batches.{party_of}
use Rattle.rules.specs.declared.state.Task.{Task}
use Rattle.rules.proofs.Batches.{given_past}
use Rattle.rules.proofs.Ranges.{ranged}
use Rattle.exchange.specs.Boxes.{works_of, answer1, answer2, answers1, answers2}
use Rattle.exchange.specs.Jobs.{roomy}
use Rattle.exchange.proofs.Exchanges.{own_below, others_below}
use Rattle.exchange.proofs.Sums.{given_below, each_added}
use Rattle.exchange.proofs.opened.Goals.{Else-not-has_room, Start}
use Rattle.exchange.proofs.opened.Goals as goal

-- both outs have room
room : (e : Else-not-has_room) → let v = e.args in roomy v.n.bits v.task v.o1.now v.o2.now ≡ true
room e = sym e.has_room.ensures ∙ not-false _ e.if-not-has_room.false-raw

pub returns-then-not-has_room : goal.returns-then-not-has_room
returns-then-not-has_room c =
    let short = sym c.has_room.ensures ∙ not-true _ c.if-not-has_room.true-raw in
    (rw short refl, rw short refl)

pub answers-requires : goal.answers-requires
answers-requires c =
    let v = c.args in
    let p = c.requires in
    let words = round_for v.n.bits (count_of v.task) 1 in
    let both = room (goal.at.answers-requires c).Else-not-has_room in
    let fits1 = leb-true words (length v.o1.now) (and_left (leb words (length v.o1.now)) (leb words (length v.o2.now)) both) in
    let fits2 = leb-true words (length v.o2.now) (and_right (leb words (length v.o1.now)) (leb words (length v.o2.now)) both) in
    record {
      box1 = (p.ready.0, rw (p.width.0, p.task.0) fits1);
      box2 = (p.ready.1, rw (p.width.1, p.task.1) fits2);
      same = (p.width.0 ∙ sym p.width.1, ap count_of (p.task.0 ∙ sym p.task.1));
    }

-- the answer shares are below p
module _ (s : Start) where
  below1 : (i : ℕ) → get_or (answers1 s.args.s1.now s.args.s2.now s.args.t1.now s.args.t2.now s.args.w1.now s.args.w2.now) i 0 < modulus s.args.n.bits
  below1 i =
      let v = s.args in
      let width = (ranged v.s1.now s.requires.ready.0.ranged).width in
      subst (λ (n : ℕ). get_or (answers1 v.s1.now v.s2.now v.t1.now v.t2.now v.w1.now v.w2.now) i 0 < modulus n) s.requires.width.0
      (given_below v.s1.now.n v.s1.now.side v.s1.now.batch.task _ width
      (λ j. own_below (party_of v.s1.now v.t1.now j) (party_of v.s2.now v.t2.now j) (works_of v.s1.now v.s2.now v.w1.now v.w2.now j) width) i)

  below2 : (i : ℕ) → get_or (answers2 s.args.s1.now s.args.s2.now s.args.t1.now s.args.t2.now s.args.w1.now s.args.w2.now) i 0 < modulus s.args.n.bits
  below2 i =
      let v = s.args in
      let width = (ranged v.s2.now s.requires.ready.1.ranged).width in
      subst (λ (n : ℕ). get_or (answers2 v.s1.now v.s2.now v.t1.now v.t2.now v.w1.now v.w2.now) i 0 < modulus n) s.requires.width.1
      (given_below v.s2.now.n v.s2.now.side v.s2.now.batch.task _ width
      (λ j. others_below (party_of v.s1.now v.t1.now j) (party_of v.s2.now v.t2.now j) (works_of v.s1.now v.s2.now v.w1.now v.w2.now j) width) i)

pub added-requires : goal.added-requires
added-requires c = λ i.
    let s = (goal.at.added-requires c).Start in
    (rw c.answers.ensures.box1 (below1 s i), rw c.answers.ensures.box2 (below2 s i))

pub returns : goal.returns
returns c =
    let v = c.args in
    let s1 = v.s1.now in
    let s2 = v.s2.now in
    let enough = room (goal.at.returns c).Else-not-has_room in
    let p = modulus v.n.bits in
    let each1 = answer1 s1 s2 v.t1.now v.t2.now v.w1.now v.w2.now in
    let each2 = answer2 s1 s2 v.t1.now v.t2.now v.w1.now v.w2.now in
    let list1 = answers1 s1 s2 v.t1.now v.t2.now v.w1.now v.w2.now in
    let list2 = answers2 s1 s2 v.t1.now v.t2.now v.w1.now v.w2.now in
    let past1 = subst (λ (t : Task). (i : ℕ) → answer_count t ≤ i → get_or list1 i 0 ≡ 0) c.requires.task.0 (given_past s1.n s1.side each1 s1.batch.task) in
    let past2 = subst (λ (t : Task). (i : ℕ) → answer_count t ≤ i → get_or list2 i 0 ≡ 0) c.requires.task.1 (given_past s2.n s2.side each2 s2.batch.task) in
    let sums = ap₂ (λ (x y : List ℕ). tabulate most_jobs (λ i. (get_or x i 0 + get_or y i 0) % p)) c.answers.ensures.box1 c.answers.ensures.box2 in
    (rw enough refl, rw enough (c.added.ensures ∙ sums ∙ each_added p (answer_count v.task) list1 list2 past1 past2))
