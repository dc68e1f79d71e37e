-- A check that comes to 0 refuses nothing.
use mathlib.Core.Path.{◌≡◌, refl}
use native.Mathlib.Omega.{arith}
use Rattle.std.specs.Prelude.{Result, Ok, Err, IsOk}
use Rattle.refusals.specs.Checks.{ground_of}
use Rattle.refusals.specs.declared.Refusal.{Refusal}
use Rattle.refusals.proofs.Numbers.{numbered}

pub goes_on : {A : Type 0} (check : Result A Refusal) → ground_of check ≡ 0 → IsOk check
goes_on (Ok _) e = refl
goes_on (Err refusal) e = absurd (omega (arith, e, numbered refusal))
