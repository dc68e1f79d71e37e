-- A job's exchanges: what the two boxes send and answer in each of the jobs that its start took, by the rounds of document 01 (protocol, Exchange.antt), for
-- given tapes and for the shares that opened each job. What a box sends in a round is joined from them, and so are its answers (document 02, P9), but for a
-- band's one (P10).
use Rattle.std.specs.Prelude.{ℕ, ◌+◌, List, replicate}
use Rattle.lists.specs.Joined.{chained}
use Rattle.protocol.specs.Work.{work_length}
use Rattle.protocol.specs.Products.{Party, party}
use Rattle.protocol.specs.Exchange.{Both, sent_own, sent_others, answer_own, answer_others}
use Rattle.rules.specs.Tasks.{count_of, pairs_of}
use Rattle.rules.specs.Batches.{x_in, y_in, each_job, answers_given}
use Rattle.guarantees.specs.Boxes.{Box, box1, box2, side_of}
use Rattle.guarantees.specs.Keys.{Key}
use Rattle.guarantees.specs.Run.{Lending}

-- no message depends on what work holds at first: zeros
abbrev pub blank : ℕ → Both
blank n = record { own = replicate (work_length n) 0; others = replicate (work_length n) 0 }

-- tapes by box, number and width, and the shares that opened each job
module _ (tapes : Box → ℕ → ℕ → List ℕ) (book : Box → Key → Lending) where
  -- a box in job i of those that a start took
  abbrev pub party_at : Box → Key → ℕ → Party
  party_at b key i =
      let pairs = pairs_of (side_of b) key.task (book b key) in
      party key.width (side_of b) (x_in pairs i) (y_in pairs i) (tapes b (key.first + i) key.width)

  -- what it sends there in a round
  abbrev pub sent_in : Box → Key → ℕ → ℕ → List ℕ
  sent_in box1 key i round = sent_own (party_at box1 key i) (party_at box2 key i) (blank key.width) round
  sent_in box2 key i round = sent_others (party_at box1 key i) (party_at box2 key i) (blank key.width) round

  -- its answer share there
  abbrev pub answer_in : Box → Key → ℕ → ℕ
  answer_in box1 key i = answer_own (party_at box1 key i) (party_at box2 key i) (blank key.width)
  answer_in box2 key i = answer_others (party_at box1 key i) (party_at box2 key i) (blank key.width)

  -- what box b sends in a round, and its answer shares
  abbrev pub sent_by : Box → Key → ℕ → List ℕ
  sent_by b key round = chained (count_of key.task) (λ i. sent_in b key i round)

  abbrev pub answers_by : Box → Key → List ℕ
  answers_by b key = answers_given key.width (side_of b) key.task (each_job (count_of key.task) (answer_in b key))
