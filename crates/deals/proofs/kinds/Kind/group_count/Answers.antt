-- `deals::kinds::Kind::group_count` meets its contract: n is at most 31, so nothing wraps.
use native.Mathlib.Omega.{arith}
use Rattle.tape.proofs.Sizes.{small}
use Rattle.deals.proofs.kinds.Kind.group_count.Goals as goal

pub overflow_mul-result-in-Square : goal.overflow_mul-result-in-Square
overflow_mul-result-in-Square c = omega (arith, small c.args.n.listed)
