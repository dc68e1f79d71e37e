-- `tape::body_in_range` meets its contract: before each section, what was passed over is the section's start, and all of it is below p.
use Rattle.std.proofs.Common.{◌≡◌, ◌<◌, ℕ, true, get_or}
use Rattle.field.specs.Width.{modulus}
use Rattle.tape.specs.Layout.{section_start}
use Rattle.tape.proofs.Passing.{Between}
use Rattle.tape.proofs.body_in_range.Given as goal

abbrev pub invariant-sections : goal.invariant-sections
invariant-sections l = record {
  all : l.all ≡ true;
  start : l.from ≡ section_start l.n.bits l.section-index;
  below : Between l.tape l.n.bits 0 l.from;
}

abbrev pub invariant-loop-word : goal.invariant-loop-word
invariant-loop-word l = record {
  all : l.all ≡ true;
  below : (k : ℕ) → k < l.word-index → get_or l.word-items k 0 < modulus l.n.bits;
}
