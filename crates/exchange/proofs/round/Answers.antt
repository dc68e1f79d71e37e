-- `exchange::round` meets its contract: what a box hears is the front of the other's out, which is the other's message.
use Prim.Native.Nat.{ℕ}
use mathlib.Core.Path.{sym, ap, ap₂, ◌∙◌}
use Rattle.shares.specs.Reading.{read_words}
use Rattle.protocol.specs.Sizes.{round_for}
use Rattle.rules.specs.Batches.{joined_message}
use Rattle.rules.proofs.Ranges.{ranged}
use Rattle.exchange.proofs.Delivery.{AtFront, at_front, hears}
use Rattle.exchange.proofs.round.Goals.{After-both_speak}
use Rattle.exchange.proofs.round.Goals as goal

-- each box's message at the front of its out
front1 : (a : After-both_speak)
    → let v = a.args in
    AtFront (joined_message v.s1.now v.t1.now v.w1.now v.round) a.both_speak.new.o1 a.words_for-words.result
front1 a =
    let v = a.args in
    let counted = a.words_for-words.ensures ∙ ap (λ (count : ℕ). round_for v.s1.now.n count v.round) a.count.ensures in
    at_front v.s1.now v.t1.now v.w1.now v.round v.o1.now _ a.words_for-words.result counted a.requires.box1.1 a.both_speak.ensures.box1.0

front2 : (a : After-both_speak)
    → let v = a.args in
    AtFront (joined_message v.s2.now v.t2.now v.w2.now v.round) a.both_speak.new.o2 a.words_for-words.result
front2 a =
    let v = a.args in
    let same = a.requires.same in
    let counted = a.words_for-words.ensures ∙ ap₂ (λ (n count : ℕ). round_for n count v.round) same.0 (a.count.ensures ∙ same.1) in
    at_front v.s2.now v.t2.now v.w2.now v.round v.o2.now _ a.words_for-words.result counted a.requires.box2.1 a.both_speak.ensures.box2.0

pub invariant_of-words_for : goal.invariant_of-words_for
invariant_of-words_for c = record { listed = (ranged c.args.s1.now c.requires.box1.0.ranged).width }

pub slice_bounds-both_hear-end : goal.slice_bounds-both_hear-end
slice_bounds-both_hear-end c = (front2 (goal.at.slice_bounds-both_hear-end c).After-both_speak).within

pub slice_bounds-both_hear-end-2 : goal.slice_bounds-both_hear-end-2
slice_bounds-both_hear-end-2 c = (front2 (goal.at.slice_bounds-both_hear-end-2 c).After-both_speak).long

pub slice_bounds-both_hear-end-3 : goal.slice_bounds-both_hear-end-3
slice_bounds-both_hear-end-3 c = (front1 (goal.at.slice_bounds-both_hear-end-3 c).After-both_speak).within

pub slice_bounds-both_hear-end-4 : goal.slice_bounds-both_hear-end-4
slice_bounds-both_hear-end-4 c = (front1 (goal.at.slice_bounds-both_hear-end-4 c).After-both_speak).long

pub returns : goal.returns
returns c =
    let v = c.args in
    let ready1 = c.requires.box1.0 in
    let ready2 = c.requires.box2.0 in
    let same = c.requires.same in
    let told = c.both_speak.ensures in record {
      box1 = (
        told.box1.0,
        hears v.s2.now v.first v.round v.t2.now v.w2.now ready2 v.s1.now v.t1.now v.w1.now ready1 (sym same.0) (sym same.1)
            _ _ _ _ _ told.box1.1 (ap (read_words v.s1.now.n) (front2 (goal.at.returns c).After-both_speak).front) c.both_hear.ensures.box1,
      );
      box2 = (
        told.box2.0,
        hears v.s1.now v.first v.round v.t1.now v.w1.now ready1 v.s2.now v.t2.now v.w2.now ready2 same.0 same.1
            _ _ _ _ _ told.box2.1 (ap (read_words v.s2.now.n) (front1 (goal.at.returns c).After-both_speak).front) c.both_hear.ensures.box2,
      );
    }
