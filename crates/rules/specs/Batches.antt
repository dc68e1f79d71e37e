-- The jobs that one start takes (document 02, P9). What one of them has is said by document 01's rules; what they have together is joined from it in order.
-- A band is two of them (P10), but for its one answer.
use Rattle.std.specs.Prelude.{ℕ, ◌+◌, ◌*◌, cond, List, ltb, get_or, replicate}
use Rattle.std.proofs.lemmas.List.Edits.{sets}
use Rattle.lists.specs.Tabulate.{tabulate}
use Rattle.lists.specs.Joined.{chained, part}
use Rattle.tape.specs.Layout.{tape_length}
use Rattle.protocol.specs.Work.{work_length}
use Rattle.protocol.specs.Products.{Party, party}
use Rattle.protocol.specs.Rounds.{last_round, round_words, message, after_hearing, answer_share}
use Rattle.protocol.specs.Sizes.{most_jobs}
use Rattle.rules.specs.declared.state.Task.{Task}
use Rattle.rules.specs.declared.state.Task.TheVariants.{Compare, Band}
use Rattle.rules.specs.declared.state.Batch.{Batch}
use Rattle.rules.specs.declared.state.State.{State}
use Rattle.rules.specs.Tasks.{count_of, band_share}

-- a word for each of so many jobs, and 0 past the count
abbrev pub each_job : ℕ → (ℕ → ℕ) → List ℕ
each_job count f = tabulate most_jobs (λ i. cond (ltb i count) (f i) 0)

-- what a state holds of no job
abbrev pub no_batch : Batch
no_batch = record { first = 0; task = Compare 0; x = replicate most_jobs 0; y = replicate most_jobs 0 }

-- a list of shares has x and y of the first job, then of the next
abbrev pub x_in : List ℕ → ℕ → ℕ
x_in shares i = get_or shares (2 * i) 0

abbrev pub y_in : List ℕ → ℕ → ℕ
y_in shares i = get_or shares (2 * i + 1) 0

-- what it holds of the jobs that a start took, with such a list
abbrev pub batch_of : ℕ → Task → List ℕ → Batch
batch_of first task pairs =
    record { first = first; task = task; x = each_job (count_of task) (x_in pairs); y = each_job (count_of task) (y_in pairs) }

-- job i's part of the lent tapes, of work, and of a round's words
abbrev pub tape_part : ℕ → List ℕ → ℕ → List ℕ
tape_part n tapes i = part (tape_length n) tapes i

abbrev pub work_part : ℕ → List ℕ → ℕ → List ℕ
work_part n work i = part (work_length n) work i

abbrev pub words_part : ℕ → ℕ → List ℕ → ℕ → List ℕ
words_part n round words i = part (round_words n round) words i

-- the box of a state in job i, as the rounds know it
abbrev pub party_of : State → List ℕ → ℕ → Party
party_of s tapes i = party s.n s.side (get_or s.batch.x i 0) (get_or s.batch.y i 0) (tape_part s.n tapes i)

-- what it sends in a round: the jobs' messages joined
unfoldable pub joined_message : State → List ℕ → List ℕ → ℕ → List ℕ
joined_message s tapes work round = chained (count_of s.batch.task) (λ i. message (party_of s tapes i) (work_part s.n work i) round)

-- work after such words were heard: in each job's part what that job keeps of its part of the words, the rest as it was
unfoldable pub joined_after : State → List ℕ → List ℕ → ℕ → List ℕ → List ℕ
joined_after s tapes work round incoming =
    sets work 0
    (chained (count_of s.batch.task) (λ i. after_hearing (party_of s tapes i) (work_part s.n work i) round (words_part s.n round incoming i)))

-- the answer shares that it gives, from those of its jobs: these in job order, or a band's one, and 0 past them
abbrev pub answers_given : ℕ → ℕ → Task → List ℕ → List ℕ
answers_given n side (Compare count) each = each
answers_given n side (Band low high) each = each_job 1 (λ i. band_share n side (get_or each 0 0) (get_or each 1 0))

unfoldable pub answer_shares : State → List ℕ → List ℕ → List ℕ → List ℕ
answer_shares s tapes work incoming =
    answers_given s.n s.side s.batch.task
    (each_job (count_of s.batch.task) (λ i. answer_share (party_of s tapes i) (work_part s.n work i) (words_part s.n last_round incoming i)))
