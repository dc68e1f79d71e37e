-- `vectors::job::compared` meets its contract: no round has more words than there is room for, what stands there is compared, and what comes
-- to the other box is read as it.
use Rattle.std.proofs.Common.{◌≡◌, ℕ, ◌+◌, ◌≤◌, List, length, ◌++◌, take, sym, ap, ap₂, subst, ◌∙◌, arith}
use Rattle.shares.specs.Reading.{read_words}
use Rattle.protocol.specs.Sizes.{round_for}
use Rattle.rules.specs.Tasks.{count_of}
use Rattle.rules.specs.Batches.{joined_message}
use Rattle.rules.proofs.Ranges.{ranged}
use Rattle.exchange.proofs.Delivery.{AtFront, at_front, hears}
use Rattle.vectors.specs.Numbers.{spelled}
use Rattle.vectors.specs.Sent.{respelled_in}
use Rattle.vectors.proofs.Carried.{round_most, respelled_append, respelled_most, arrived}
use Rattle.vectors.proofs.job.compared.Goals.{After-both_speak}
use Rattle.vectors.proofs.job.compared.Goals as goal

module _ (a : After-both_speak) where
  abbrev words : ℕ
  words = a.words_for-words.result

  counted : words ≡ round_for a.args.s1.now.n (count_of a.args.s1.now.batch.task) a.args.round
  counted = a.words_for-words.ensures ∙ ap (λ (count : ℕ). round_for a.args.s1.now.n count a.args.round) a.count.ensures

  same_count : count_of a.args.s1.now.batch.task ≡ count_of a.args.s2.now.batch.task
  same_count = ap count_of a.requires.task

  -- the two messages, and the outs that they were written to
  abbrev message1 : List ℕ
  message1 = let v = a.args in joined_message v.s1.now v.t1.now v.w1.now v.round

  abbrev message2 : List ℕ
  message2 = let v = a.args in joined_message v.s2.now v.t2.now v.w2.now v.round

  front1 : AtFront message1 a.both_speak.new.o1 words
  front1 =
      let v = a.args in
      let enough : round_for v.s1.now.n (count_of v.s1.now.batch.task) v.round ≤ length a.blank_messages-o1.result =
      omega (arith, round_most a.requires.box1 v.round, a.blank_messages-o1.ensures.0) in
      at_front v.s1.now v.t1.now v.w1.now v.round _ a.both_speak.new.o1 words counted enough a.both_speak.ensures.box1.0

  front2 : AtFront message2 a.both_speak.new.o2 words
  front2 =
      let v = a.args in
      let counted2 = counted ∙ ap₂ (λ (n count : ℕ). round_for n count v.round) a.requires.width same_count in
      let enough : round_for v.s2.now.n (count_of v.s2.now.batch.task) v.round ≤ length a.blank_messages-o2.result =
      omega (arith, round_most a.requires.box2 v.round, a.blank_messages-o2.ensures.0) in
      at_front v.s2.now v.t2.now v.w2.now v.round _ a.both_speak.new.o2 words counted2 enough a.both_speak.ensures.box2.0

  -- what stands at their fronts is what the text must go on with
  told : (text : List ℕ) → spelled text (take words a.both_speak.new.o1 ++ take words a.both_speak.new.o2) ≡ spelled text (message1 ++ message2)
  told text = ap₂ (λ (x y : List ℕ). spelled text (x ++ y)) front1.front front2.front

pub invariant_of-n : goal.invariant_of-n
invariant_of-n c = record { listed = (ranged c.args.s1.now c.requires.box1.ranged).width }

pub both_speak-requires-clause-box1 : goal.both_speak-requires-clause-box1
both_speak-requires-clause-box1 c = (c.requires.box1, omega (arith, round_most c.requires.box1 c.args.round, c.blank_messages-o1.ensures.0))

pub both_speak-requires-clause-box2 : goal.both_speak-requires-clause-box2
both_speak-requires-clause-box2 c = (c.requires.box2, omega (arith, round_most c.requires.box2 c.args.round, c.blank_messages-o2.ensures.0))

pub slice_bounds-o1-end : goal.slice_bounds-o1-end
slice_bounds-o1-end c = (front1 (goal.at.slice_bounds-o1-end c).After-both_speak).within

pub slice_bounds-o1-end-2 : goal.slice_bounds-o1-end-2
slice_bounds-o1-end-2 c = (front1 (goal.at.slice_bounds-o1-end-2 c).After-both_speak).long

pub slice_bounds-o2-end : goal.slice_bounds-o2-end
slice_bounds-o2-end c = (front2 (goal.at.slice_bounds-o2-end c).After-both_speak).within

pub slice_bounds-o2-end-2 : goal.slice_bounds-o2-end-2
slice_bounds-o2-end-2 c = (front2 (goal.at.slice_bounds-o2-end-2 c).After-both_speak).long

pub returns-in_err-both_same-clause-read : goal.returns-in_err-both_same-clause-read
returns-in_err-both_same-clause-read c =
    rw c.from_residual.ensures (c.in_err-both_same.ensures ∙ told (goal.at.returns-in_err-both_same-clause-read c).After-both_speak _)

pub overflow_add-result : goal.overflow_add-result
overflow_add-result c =
    let a = (goal.at.overflow_add-result c).After-both_speak in
    let v = c.args in
    let most1 = respelled_most v.spelling (take (words a) a.both_speak.new.o1) in
    let most2 = respelled_most v.spelling (take (words a) a.both_speak.new.o2) in
    let most = round_most c.requires.box1 v.round in
    let zeros1 = c.carry-zeros1.ensures.value in
    let zeros2 = c.carry-zeros2.ensures.value in
    omega (arith, zeros1, most1, (front1 a).long, zeros2, most2, (front2 a).long, counted a, most)

pub returns-clause-read : goal.returns-clause-read
returns-clause-read c = c.in_ok-both_same.ensures ∙ told (goal.at.returns-clause-read c).After-both_speak _

pub returns-clause-box1 : goal.returns-clause-box1
returns-clause-box1 c =
    let a = (goal.at.returns-clause-box1 c).After-both_speak in
    let v = c.args in
    let read = arrived v.s1.now.n v.spelling _ c.carry-zeros2.new.words (message2 a) (front2 a).front c.carry-zeros2.ensures.carried in
    hears v.s2.now v.first v.round v.t2.now v.w2.now c.requires.box2 v.s1.now v.t1.now v.w1.now c.requires.box1
    (sym c.requires.width) (sym (same_count a)) _ _ _ _ _ c.both_speak.ensures.box1.1 read c.both_hear-heard.ensures.box1

pub returns-clause-box2 : goal.returns-clause-box2
returns-clause-box2 c =
    let a = (goal.at.returns-clause-box2 c).After-both_speak in
    let v = c.args in
    let read = arrived v.s1.now.n v.spelling _ c.carry-zeros1.new.words (message1 a) (front1 a).front c.carry-zeros1.ensures.carried in
    let read2 = subst (λ (n : ℕ). read_words n c.carry-zeros1.new.words ≡ read_words n (message1 a)) c.requires.width read in
    hears v.s1.now v.first v.round v.t1.now v.w1.now c.requires.box1 v.s2.now v.t2.now v.w2.now c.requires.box2
    c.requires.width (same_count a) _ _ _ _ _ c.both_speak.ensures.box2.1 read2 c.both_hear-heard.ensures.box2

pub returns-clause-zeros : goal.returns-clause-zeros
returns-clause-zeros c =
    let a = (goal.at.returns-clause-zeros c).After-both_speak in
    let spelling = c.args.spelling in
    let zeros1 = c.carry-zeros1.ensures.value ∙ ap (respelled_in spelling) (front1 a).front in
    let zeros2 = c.carry-zeros2.ensures.value ∙ ap (respelled_in spelling) (front2 a).front in
    ap₂ ◌+◌ zeros1 zeros2 ∙ sym (respelled_append spelling (message1 a) (message2 a))
