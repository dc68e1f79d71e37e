use Rattle.std.proofs.Common.{◌≡◌, ◌+◌, ◌≤◌, ◌<◌, length, get_or, ltb, refl, sym, ap, ◌∙◌, arith, add-one, lt-ltb, ltb-true, below_more}
use Rattle.lists.proofs.Every.{every_intro, every_fails}
use Rattle.field.specs.Width.{modulus}
use Rattle.tape.specs.Layout.{section_length, body_length}
use Rattle.tape.specs.Order.{body_in_range}
use Rattle.tape.proofs.Sections.{placed, section_within}
use Rattle.tape.proofs.Passing.{none_between, between_join, part, length_part, length_later, later_word, part_passed}
use Rattle.tape.proofs.body_in_range.Goals.{After-section_words}
use Rattle.tape.proofs.body_in_range.Goals as goal

pub sections-init : goal.sections-init
sections-init c = record { all = refl; start = refl; below = none_between c.args.tape.now c.args.n.bits 0 }

-- a section ends within the body
words_of : (c : After-section_words) → c.section_words.result ≡ section_length c.args.n.bits c.sections.section-index
words_of c =
    c.section_words.ensures ∙ ap (section_length c.args.n.bits) (placed c.sections.section-index _ c.sections-test.true)

end_within : (c : After-section_words) → c.sections.from + c.section_words.result ≤ length c.args.tape.now
end_within c =
    omega (arith, words_of c, c.sections.invariant.start, section_within c.args.n.bits c.sections.section-index c.sections-test.true, c.requires)

pub overflow_add-end : goal.overflow_add-end
overflow_add-end c = omega (arith, end_within c, c.well_formed)

pub offset_bounds-tape-from : goal.offset_bounds-tape-from
offset_bounds-tape-from c = omega (arith, end_within c, c.well_formed)

pub slice_bounds-words-end : goal.slice_bounds-words-end
slice_bounds-words-end c = let within = end_within c in omega arith

pub loop-word-preserved : goal.loop-word-preserved
loop-word-preserved c =
    record {
      all = c.loop-word.invariant.all;
      below = below_more _ _ c.loop-word.invariant.below (ltb-true _ _ (sym c.contains.ensures ∙ c.if-not-contains.false));
    }

pub sections-preserved : goal.sections-preserved
sections-preserved c =
    let s = c.sections in
    let a = c.args in
    let to = s.from + c.section_words.result in
    let here = (goal.at.sections-preserved c).After-section_words in
    let inside = end_within here in
    record {
      all = c.loop-word.invariant.all;
      start = rw add-one (omega (arith, words_of here, s.invariant.start));
      below = between_join a.tape.now a.n.bits 0 s.from to s.invariant.below
          (part_passed a.tape.now s.from to c.passed.result (omega arith) inside a.n.bits c.passed.ensures.within c.passed.ensures.below
          (λ k l. c.loop-word.invariant.below k (omega (arith, l, length_later a.tape.now s.from to c.passed.result (omega arith) inside))));
    }

pub returns-after-sections : goal.returns-after-sections
unfolding body_in_range
returns-after-sections c =
    let n = c.args.n.bits in
    let tape = c.args.tape.now in
    let three : c.sections.section-index ≡ 3 = omega arith in
    c.sections.invariant.all
    ∙ sym
    (every_intro (body_length n) (λ i. ltb (get_or tape i 0) (modulus n))
    (λ k l. lt-ltb (get_or tape k 0) (modulus n) (c.sections.invariant.below k (omega arith) (rw (c.sections.invariant.start, three) l))))

pub returns-then-not-contains : goal.returns-then-not-contains
unfolding body_in_range
returns-then-not-contains c =
    let n = c.args.n.bits in
    let tape = c.args.tape.now in
    let s = c.sections in
    let to = s.from + c.section_words.result in
    let skipped = c.passed.result in
    let here = (goal.at.returns-then-not-contains c).After-section_words in
    let inside = end_within here in
    let up : s.from ≤ to = omega arith in
    let read : skipped + c.loop-word.word-index < length (part tape s.from to skipped up inside) =
    omega (arith, c.loop-word-test.true, length_later tape s.from to skipped up inside) in
    let within : s.from + (skipped + c.loop-word.word-index) < body_length n =
    omega (arith, read, length_part tape s.from to skipped up inside, words_of here, s.invariant.start, section_within n s.section-index c.sections-test.true) in
    sym
    (every_fails (body_length n) (λ i. ltb (get_or tape i 0) (modulus n)) (s.from + (skipped + c.loop-word.word-index)) within
    (rw (← later_word tape s.from to skipped up inside c.loop-word.word-index read) (sym c.contains.ensures ∙ c.if-not-contains.true)))
