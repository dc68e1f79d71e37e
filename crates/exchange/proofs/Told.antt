-- A hear whose reply are the answer shares answered those.
use Rattle.std.proofs.Common.{◌≡◌, ℕ, refl, List, Option, Some, None, Result, Ok, Err}
use Rattle.refusals.specs.declared.Refusal.{Refusal}
use Rattle.rules.specs.Answers.{finished, heard_or_finished, reply_of}

pub told_shares : (r : Result (Option (List ℕ)) Refusal) (words : List ℕ) → reply_of heard_or_finished r ≡ finished words → r ≡ Ok (Some words)
told_shares (Ok (Some own)) words told = let same : own ≡ words = cc in rw same refl
told_shares (Ok None) words told = absurd (cc)
told_shares (Err refusal) words told = absurd (cc)
