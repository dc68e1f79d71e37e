-- Memory for a job of one comparison at any width, such a job with memory of its own on one fresh tape of each box, and a band with memory of its own on two.
use Rattle.std.specs.Prelude.{ℕ, ◌*◌, List, [], ◌∷◌, get_or, replicate, Ok, Err, Result as Answer}
use Rattle.protocol.specs.Work.{work_length}
use Rattle.protocol.specs.Rounds.{round_words}
use Rattle.tally.specs.Tally.{mark_bytes}
use Rattle.refusals.specs.declared.Refusal.{Refusal}
use Rattle.exchange.specs.declared.Shares.{Shares}
use Rattle.rules.specs.declared.state.Task.TheVariants.{Compare, Band}
use Rattle.exchange.specs.Jobs.{Lent, lent, Ended, job_of}
use Rattle.exchange.specs.Rooms.{blank_works, blank_messages}

-- zeros to work in, and for the longest message, at the largest width
unfoldable pub blank_work : List ℕ
blank_work = replicate (work_length 31) 0

unfoldable pub blank_words : List ℕ
blank_words = replicate (round_words 31 1) 0

-- the tally of one fresh tape
abbrev pub one_fresh : List ℕ
one_fresh = replicate mark_bytes 255

-- the list of one comparison's shares
abbrev pub shares_of : Shares → List ℕ
shares_of own = own.x ∷ own.y ∷ []

-- a box with one fresh tape and such memory
abbrev pub fresh_lent : Shares → List ℕ → Lent
fresh_lent own tape = lent (shares_of own) tape blank_work one_fresh blank_words

-- what a job of one comparison, or a band, gives
pub record Compared : Type 0 where
  pub refusal : ℕ
  pub less : ℕ

-- the opened answer, and 0 where the job was refused
abbrev pub less_of : Answer ℕ Refusal → ℕ
less_of (Ok less) = less
less_of (Err refusal) = 0

-- the first answer of a job, and its refusal
abbrev pub first_answer : Ended → Compared
first_answer ended = record { refusal = ended.refusal; less = get_or ended.bits 0 0 }

unfoldable pub fresh_job : ℕ → ℕ → ℕ → Shares → Shares → List ℕ → List ℕ → Compared
fresh_job n pair number box1 box2 t1 t2 =
    first_answer (job_of n pair number (Compare 1) (fresh_lent box1 t1) (fresh_lent box2 t2))

-- ---- a band

-- the tally of two fresh tapes
abbrev pub two_fresh : List ℕ
two_fresh = replicate (2 * mark_bytes) 255

-- a box with its share of a, two fresh tapes, and memory that has room for eight comparisons
abbrev pub band_lent : ℕ → List ℕ → Lent
band_lent a tapes = lent (a ∷ []) tapes blank_works two_fresh blank_messages

unfoldable pub fresh_band : ℕ → ℕ → ℕ → ℕ → ℕ → ℕ → ℕ → List ℕ → List ℕ → Compared
fresh_band n pair first low high a1 a2 t1 t2 =
    first_answer (job_of n pair first (Band low high) (band_lent a1 t1) (band_lent a2 t2))
