-- Both boxes came to a job: they tell what its text must say.
use Rattle.std.proofs.Common.{◌≡◌, ℕ, ◌<◌, List, ap, ap₂, ◌∙◌}
use Rattle.protocol.specs.Rounds.{last_round}
use Rattle.rules.specs.Tasks.{count_of}
use Rattle.rules.specs.Batches.{work_part, party_of}
use Rattle.rules.specs.declared.state.State.{State}
use Rattle.rules.specs.declared.state.Task.{Task}
use Rattle.exchange.specs.Boxes.{works, works_of}
use Rattle.exchange.specs.Rooms.{blank_works}
use Rattle.vectors.specs.declared.head.Job.{Job}
use Rattle.vectors.specs.Job.{messages_to, transcript, box1_of, box2_of, blanks_of}
use Rattle.vectors.specs.Sent.{job_sent}
use Rattle.vectors.proofs.Transcripts.{messages_same, transcript_same}

module _ (job : Job) (t1 t2 w1 w2 : List ℕ) (s1 s2 : State) (width1 : s1.n ≡ job.n) (width2 : s2.n ≡ job.n)
    (task1 : s1.batch.task ≡ job.task) (parties1 : (i : ℕ) → i < count_of job.task → party_of s1 t1 i ≡ box1_of job t1 i)
    (parties2 : (i : ℕ) → i < count_of job.task → party_of s2 t2 i ≡ box2_of job t2 i) (blank1 : w1 ≡ blank_works) (blank2 : w2 ≡ blank_works) where
  blanks : (i : ℕ) → i < count_of job.task → works_of s1 s2 w1 w2 i ≡ blanks_of job i
  blanks i less =
      ap₂ works
      (ap₂ (λ (n : ℕ) (w : List ℕ). work_part n w i) width1 blank1)
      (ap₂ (λ (n : ℕ) (w : List ℕ). work_part n w i) width2 blank2)

  pub opened_tells : transcript s1.n s1.batch.task (party_of s1 t1) (party_of s2 t2) (works_of s1 s2 w1 w2)
      ≡ transcript job.n job.task (box1_of job t1) (box2_of job t2) (blanks_of job)
  opened_tells =
      ap₂ (λ (n : ℕ) (task : Task). transcript n task (party_of s1 t1) (party_of s2 t2) (works_of s1 s2 w1 w2)) width1 task1
      ∙ transcript_same job.n job.task _ _ _ _ _ _ parties1 parties2 blanks

  pub opened_sends : messages_to (count_of s1.batch.task) (party_of s1 t1) (party_of s2 t2) (works_of s1 s2 w1 w2) last_round ≡ job_sent job t1 t2
  unfolding job_sent
  opened_sends =
      ap (λ (task : Task). messages_to (count_of task) (party_of s1 t1) (party_of s2 t2) (works_of s1 s2 w1 w2) last_round) task1
      ∙ messages_same (count_of job.task) _ _ _ _ _ _ parties1 parties2 blanks last_round
