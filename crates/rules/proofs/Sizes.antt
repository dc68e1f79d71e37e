-- How much so many jobs take at most, at any listed width: all of it stays within 32 bits.
use Prim.Native.Nat.{ℕ, ◌≤◌}
use mathlib.Core.Path.{◌≡◌}
use mathlib.Core.Bool.{true}
use native.Mathlib.Nat.{mul-le-mul}
use native.Mathlib.Omega.{arith}
use Rattle.field.specs.Width.{listed}
use Rattle.tape.specs.Layout.{tape_length}
use Rattle.tape.proofs.Sizes.{small, tape_is}
use Rattle.protocol.specs.Work.{work_length}
use Rattle.protocol.specs.Sizes.{most_jobs, tape_for, round_for, work_for}
use Rattle.protocol.proofs.Lengths.{words_most}

pub one_tape : (n : ℕ) → listed n ≡ true → tape_length n ≤ 9053
one_tape n width = omega (arith, tape_is n, small width)

pub one_work : (n : ℕ) → listed n ≡ true → work_length n ≤ 436
one_work n width = omega (arith, small width)

module _ (n count : ℕ) (width : listed n ≡ true) (few : count ≤ most_jobs) where
  pub tape_most : tape_for n count ≤ 72424
  tape_most = mul-le-mul few (one_tape n width)

  pub round_most : (round : ℕ) → round_for n count round ≤ 23112
  round_most round = mul-le-mul few (words_most n round width)

  pub work_most : work_for n count ≤ 3488
  work_most = mul-le-mul few (one_work n width)

pub ruleset bounds = (one_tape, one_work, tape_most, round_most, work_most)
