-- What the boxes of a text's job send, and how many of its zeros were respelled on the way.
use Rattle.std.specs.Prelude.{ℕ, ◌≡◌, Bool, true, false, cond, List, []}
use Rattle.std.specs.Option.{unwrap_or}
use Rattle.board.specs.Zeros.{zeros_in}
use Rattle.protocol.specs.Rounds.{last_round}
use Rattle.protocol.specs.Sizes.{tape_for}
use Rattle.rules.specs.Tasks.{count_of}
use Rattle.vectors.specs.declared.job.Agreement.{Agreement}
use Rattle.vectors.specs.declared.head.Form.{Form}
use Rattle.vectors.specs.declared.head.Job.{Job}
use Rattle.vectors.specs.declared.spelling.Spelling.{Spelling}
use Rattle.vectors.specs.declared.spelling.Spelling.TheVariants.{AsSent, Respelled}
use Rattle.vectors.specs.Numbers.{numbers_from, rest_after}
use Rattle.vectors.specs.Head.{job_in, past_job}
use Rattle.vectors.specs.Job.{messages_to, box1_of, box2_of, blanks_of, agreed}

-- whether a zero comes to the other box as p
abbrev pub respells : Spelling → Bool
respells AsSent = false
respells Respelled = true

-- how many zeros of these words are respelled: every one, or none
abbrev pub respelled_in : Spelling → List ℕ → ℕ
respelled_in spelling words = cond (respells spelling) (zeros_in words) 0

-- both boxes' messages of a whole job, on these tapes
unfoldable pub job_sent : Job → List ℕ → List ℕ → List ℕ
job_sent job t1 t2 = messages_to (count_of job.task) (box1_of job t1) (box2_of job t2) (blanks_of job) last_round

-- on the two boxes' tapes that the text has next
unfoldable pub tapes_sent : List ℕ → Job → List ℕ
tapes_sent text job =
    let words = tape_for job.n (count_of job.task) in
    job_sent job (numbers_from words text) (numbers_from words (rest_after words text))

-- all that is sent in the job of a text
unfoldable pub sent : Form → List ℕ → List ℕ
sent form text = tapes_sent (unwrap_or (past_job form text) []) (job_in form text)

-- a text names this width, first tape and task
pub record Named (form : Form) (text : List ℕ) (told : Agreement) : Type 0 where
  pub width : told.n ≡ (job_in form text).n
  pub first : told.first ≡ (job_in form text).first
  pub task : told.task ≡ (job_in form text).task

-- there is a text of such a job that agrees, and so many zeros were respelled: of what both boxes send in all its rounds
pub record Agreeing (form : Form) (spelling : Spelling) (told : Agreement) : Type 0 where
  pub text : List ℕ
  pub names : Named form text told
  pub agrees : agreed form text ≡ true
  pub respelled : told.zeros ≡ respelled_in spelling (sent form text)
