-- `tape::section_words` meets its contract: n is at most 31, so nothing wraps.
use Rattle.std.proofs.Common.{arith}
use Rattle.tape.proofs.Sizes.{small}
use Rattle.tape.proofs.section_words.Goals as goal

pub overflow_mul-result-in-Powers-2 : goal.overflow_mul-result-in-Powers-2
overflow_mul-result-in-Powers-2 c = omega (arith, small c.args.n.listed)
