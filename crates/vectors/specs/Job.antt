-- What a text must say of a job: its numbers are the job's, then all that both boxes send, then their answer shares.
use Rattle.std.specs.Prelude.{ℕ, zero, suc, ◌+◌, ◌/◌, ◌%◌, Bool, ◌&&◌, List, [], ◌∷◌, ◌++◌, eqb, replicate, take, Option, None, Result, Ok, Err}
use Rattle.std.specs.Option.{is_some, unwrap_or}
use Rattle.lists.specs.Joined.{chained}
use Rattle.lists.specs.Tabulate.{tabulate}
use Rattle.field.specs.Width.{listed}
use Rattle.refusals.specs.declared.Refusal.{Refusal}
use Rattle.protocol.specs.Products.{Party, party}
use Rattle.protocol.specs.Rounds.{last_round, message}
use Rattle.protocol.specs.Exchange.{Both, exchanged, answer_own, answer_others}
use Rattle.protocol.specs.Sizes.{tape_for}
use Rattle.tally.specs.Tally.{longest_tally}
use Rattle.rules.specs.declared.state.Task.{Task}
use Rattle.rules.specs.Tasks.{count_of, pairs_of, answer_count}
use Rattle.rules.specs.Batches.{x_in, y_in, tape_part, work_part}
use Rattle.rules.specs.OneByOne.{answer_from}
use Rattle.exchange.specs.Opening.{first_state, refusal_of, begun}
use Rattle.exchange.specs.Boxes.{works}
use Rattle.exchange.specs.Rooms.{blank_works}
use Rattle.vectors.specs.declared.head.Form.{Form}
use Rattle.vectors.specs.declared.head.Job.{Job}
use Rattle.vectors.specs.Numbers.{numbers_from, read_to, rest_after, spelled}
use Rattle.vectors.specs.Head.{list_words, job_in, past_job}

-- ---- what the boxes of a job say, by what each has of every comparison, and by both works of every one

-- both messages of a round, box 1's first
abbrev pub messages : ℕ → (ℕ → Party) → (ℕ → Party) → (ℕ → Both) → ℕ → List ℕ
messages count box1 box2 w round =
    chained count (λ i. message (box1 i) (w i).own round) ++ chained count (λ i. message (box2 i) (w i).others round)

-- both works of comparison i after so many rounds
abbrev pub held : (ℕ → Party) → (ℕ → Party) → (ℕ → Both) → ℕ → ℕ → Both
held box1 box2 w r i = exchanged (box1 i) (box2 i) (w i) r

-- the messages of the first so many rounds
unfoldable pub messages_to : ℕ → (ℕ → Party) → (ℕ → Party) → (ℕ → Both) → ℕ → List ℕ
messages_to count box1 box2 w zero = []
messages_to count box1 box2 w (suc r) =
    messages_to count box1 box2 w r ++ messages count box1 box2 (held box1 box2 w r) (suc r)

-- the answer shares that the box of that side gives: from its comparisons' each, or a band's one
abbrev pub given : ℕ → ℕ → Task → (ℕ → ℕ) → List ℕ
given n side task each = tabulate (answer_count task) (answer_from n side task each)

-- box 1's answer shares, then box 2's
abbrev pub answers : ℕ → Task → (ℕ → Party) → (ℕ → Party) → (ℕ → Both) → List ℕ
answers n task box1 box2 w =
    given n 1 task (λ i. answer_own (box1 i) (box2 i) (w i)) ++ given n 2 task (λ i. answer_others (box1 i) (box2 i) (w i))

-- every round, then the answer shares
abbrev pub transcript : ℕ → Task → (ℕ → Party) → (ℕ → Party) → (ℕ → Both) → List ℕ
transcript n task box1 box2 w = messages_to (count_of task) box1 box2 w last_round ++ answers n task box1 box2 w

-- the answer shares that a hear gave, if any
abbrev pub shares_in : Result (Option (List ℕ)) Refusal → Option (List ℕ)
shares_in (Ok shares) = shares
shares_in (Err refusal) = None

-- ---- a job

-- a tally of which no tape is used
unfoldable pub unused_tally : List ℕ
unused_tally = replicate longest_tally 255

-- a box comes to the job and is not refused; of its list the words of the task are lent
abbrev pub comes : Job → ℕ → List ℕ → List ℕ → Bool
comes job side list tapes =
    let shares = take (list_words job.task) list in
    eqb (refusal_of (begun first_state job.n side job.pair job.first job.task shares tapes blank_works unused_tally).reply) 0

-- what the box of that side has of comparison i
abbrev pub party_at : Job → ℕ → List ℕ → List ℕ → ℕ → Party
party_at job side list tapes i =
    let pairs = pairs_of side job.task list in
    party job.n side (x_in pairs i) (y_in pairs i) (tape_part job.n tapes i)

abbrev pub box1_of : Job → List ℕ → ℕ → Party
box1_of job tapes = party_at job 1 job.box1 tapes

abbrev pub box2_of : Job → List ℕ → ℕ → Party
box2_of job tapes = party_at job 2 job.box2 tapes

abbrev pub blanks_of : Job → ℕ → Both
blanks_of job i = works (work_part job.n blank_works i) (work_part job.n blank_works i)

-- both come to it, and the text goes on with what they send and answer
unfoldable pub job_told : List ℕ → Job → List ℕ → List ℕ → Bool
job_told text job t1 t2 =
    comes job 1 job.box1 t1
    && comes job 2 job.box2 t2
    && is_some (spelled text (transcript job.n job.task (box1_of job t1) (box2_of job t2) (blanks_of job)))

-- the text goes on with box 1's tapes, box 2's tapes, and the job on them
unfoldable pub tapes_told : List ℕ → Job → Bool
tapes_told text job =
    let words = tape_for job.n (count_of job.task) in
    let rest = rest_after words text in
    listed job.n
    && is_some (read_to words text)
    && is_some (read_to words rest)
    && job_told (rest_after words rest) job (numbers_from words text) (numbers_from words rest)

-- ---- a text

-- a text has its job, both boxes' tapes, both messages of each round, both boxes' answer shares
unfoldable pub agreed : Form → List ℕ → Bool
agreed form text = is_some (past_job form text) && tapes_told (unwrap_or (past_job form text) []) (job_in form text)

-- the bytes of job-WW-K.txt, where WW is w in two digits
abbrev pub name_of : ℕ → ℕ → List ℕ
name_of w k = 106 ∷ 111 ∷ 98 ∷ 45 ∷ (48 + w / 10 % 10) ∷ (48 + w % 10) ∷ 45 ∷ (48 + k % 10) ∷ 46 ∷ 116 ∷ 120 ∷ 116 ∷ []
