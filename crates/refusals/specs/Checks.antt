-- What a call's checks come to: the number of the refusal, or 0 where the call goes on.
use Rattle.std.specs.Prelude.{ℕ, Result, Ok, Err}
use Rattle.refusals.specs.Numbers.{number_of}
use Rattle.refusals.specs.declared.Refusal.{Refusal}

abbrev pub ground_of : {A : Type 0} → Result A Refusal → ℕ
ground_of (Ok _) = 0
ground_of (Err refusal) = number_of refusal
