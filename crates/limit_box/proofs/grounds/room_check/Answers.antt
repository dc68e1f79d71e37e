-- `limit_box::grounds::room_check` meets its contract: so many jobs' room is within 64 bits.
use Prim.Native.Nat.{◌≤◌}
use native.Mathlib.Nat.{mul-le-mul}
use native.Mathlib.Omega.{arith}
use Rattle.rules.proofs.Sizes.{one_work}
use Rattle.limit_box.proofs.grounds.room_check.Goals as goal

pub overflow_mul-count : goal.overflow_mul-count
overflow_mul-count c =
    let few : c.args.count ≤ 4294967295 = omega (arith, c.ranges.count.fits) in
    let short : c.work_words.result ≤ 436 = omega (arith, c.work_words.ensures, one_work c.args.n.bits c.args.n.listed) in
    omega (arith, mul-le-mul few short)
