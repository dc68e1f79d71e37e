-- `tape::passed` meets its contract: what the blocks so far and the words that are left make is the whole, and the blocks' words are below p.
use Rattle.std.proofs.Common.{◌≡◌, ◌≤◌, length, drop}
use Rattle.std.specs.Slice.Iter.{chunks_rest}
use Rattle.tape.proofs.Passing.{Between}
use Rattle.tape.proofs.passed.Given as goal

abbrev pub invariant-loop-block : goal.invariant-loop-block
invariant-loop-block l = record {
  next : (goal.iterator-loop-block).can_next l.block-iterator;
  finite : (goal.iterator-loop-block).is_finite l.block-iterator;
  within : l.passed ≤ length l.words;
  rest : chunks_rest l.block-iterator ≡ drop l.passed l.words;
  below : Between l.words l.n.bits 0 l.passed;
}
