-- A refusal's number is above 0, so 0 is free for a call that goes on.
use Prim.Native.Nat.{◌<◌}
use native.Mathlib.Omega.{arith}
use Rattle.refusals.specs.Numbers.{number_of}
use Rattle.refusals.specs.declared.Refusal.{Refusal}
use Rattle.refusals.specs.declared.Refusal.TheVariants.{Asleep, Width, Side, Tally, Busy, NoJob, Number, Spent, Share, Tape, Turn, Room, Word, Seed, Late, Count, Bounds}

pub numbered : (r : Refusal) → 0 < number_of r
numbered Asleep = omega arith
numbered Width = omega arith
numbered Side = omega arith
numbered Tally = omega arith
numbered Busy = omega arith
numbered NoJob = omega arith
numbered Number = omega arith
numbered Spent = omega arith
numbered Share = omega arith
numbered Tape = omega arith
numbered Turn = omega arith
numbered Room = omega arith
numbered Word = omega arith
numbered Seed = omega arith
numbered Late = omega arith
numbered Count = omega arith
numbered Bounds = omega arith
