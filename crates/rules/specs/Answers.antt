-- What a call answers, and what each call's own answer says.
use Rattle.std.specs.Prelude.{ℕ, List, [], Option, Some, None, Result, Ok, Err, take}
use Rattle.refusals.specs.Numbers.{number_of}
use Rattle.refusals.specs.declared.Refusal.{Refusal}

pub data Reply : Type 0 where
  -- wake: how many tapes are fresh
  fresh : ℕ → Reply
  started : Reply
  -- speak: how many words it wrote
  spoke : ℕ → Reply
  heard : Reply
  -- hear of the last round: the answer shares, in job order, 0 past the count
  finished : List ℕ → Reply
  dropped : Reply
  -- a refusal and its number
  refused : ℕ → Reply

-- the words at the front of out, as many as a speak's answer says
abbrev pub spoken_words : Reply → List ℕ → List ℕ
spoken_words (fresh k) out = []
spoken_words started out = []
spoken_words (spoke k) out = take k out
spoken_words heard out = []
spoken_words (finished vs) out = []
spoken_words dropped out = []
spoken_words (refused k) out = []

-- what a hear answers: the shares after the last round, and nothing before
abbrev pub heard_or_finished : Option (List ℕ) → Reply
heard_or_finished None = heard
heard_or_finished (Some words) = finished words

-- a call's answer by what it says where the call goes on, or its refusal by the number
abbrev pub reply_of : {A : Type 0} → (A → Reply) → Result A Refusal → Reply
reply_of said (Ok answer) = said answer
reply_of said (Err refusal) = refused (number_of refusal)
