-- What a call said, as the rules' reply.
use Rattle.std.specs.Prelude.{ℕ, List, Option, Some, None}
use Rattle.rules.specs.Answers.{Reply, fresh, started, spoke, heard, finished, dropped, refused}
use Rattle.walk.specs.declared.answers.Said.{Said}
use Rattle.walk.specs.declared.answers.Said.TheVariants.{Fresh, Started, Spoke, Heard, Finished, Dropped}

abbrev pub as_reply : Said → Reply
as_reply (Fresh count) = fresh count
as_reply Started = started
as_reply (Spoke count) = spoke count
as_reply Heard = heard
as_reply (Finished words) = finished words
as_reply Dropped = dropped

-- the answer shares, if that's the reply
abbrev pub shares_in : Reply → Option (List ℕ)
shares_in (fresh k) = None
shares_in started = None
shares_in (spoke k) = None
shares_in heard = None
shares_in (finished words) = Some words
shares_in dropped = None
shares_in (refused k) = None
