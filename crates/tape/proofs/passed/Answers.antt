use Rattle.std.proofs.Common.{◌≡◌, ◌++◌, drop, sym, ◌∙◌, rules}
use Rattle.std.specs.Slice.Iter.{chunks_rest}
use Rattle.tape.proofs.Passing.{block_within, block_rest, block_between}
use Rattle.tape.proofs.passed.Goals as goal

pub loop-block-preserved : goal.loop-block-preserved
loop-block-preserved c =
    let step = c.in-Some.ensures.steps in
    let l = c.loop-block in
    let words = c.args.words.now in
    let block = c.in-Some.block.now in
    let after = chunks_rest c.next.new.self in
    let left : drop l.passed words ≡ block ++ after = sym l.invariant.rest ∙ step.1.0 in
    record {
      next = search rules;
      finite = tt;
      within = block_within words block after l.passed l.invariant.within left;
      rest = block_rest words block after l.passed l.invariant.within left;
      below = block_between words block after l.passed l.invariant.within left c.args.n.bits l.invariant.below (sym c.contains_all.ensures ∙ c.if-not-contains_all.false);
    }
