-- `vectors::head::job_at` meets its contract.
use Rattle.std.proofs.Common.{◌≡◌, Some, sym, ◌∙◌}
use Rattle.rules.proofs.Batches.{count_most}
use Rattle.vectors.specs.Numbers.{read_to}
use Rattle.vectors.specs.Head.{head_words, list_words, head_in, list_in}
use Rattle.vectors.proofs.Heads.{job_is}
use Rattle.vectors.proofs.head.job_at.Goals as goal

pub returns-clause-job : goal.returns-clause-job
returns-clause-job c =
    let form = c.args.form in
    let text = c.args.text.now.text.now in
    let read : Some c.filled.new.self.text.now ≡ read_to (head_words form) text = rw c.head_words.ensures at c.in_ok-n.ensures.rest in
    let first : c.in_ok-n.field-0 ≡ head_in form text = rw c.head_words.ensures at c.in_ok-n.ensures.filled in
    let task = c.task-task.result in
    let next : Some c.filled-2.new.self.text.now ≡ read_to (list_words task) _ = rw c.list_words-shares.ensures at c.in_ok-filled.ensures.rest in
    let own : _ ≡ list_in task _ = rw c.list_words-shares.ensures at c.in_ok-filled.ensures.filled in
    let other : _ ≡ list_in task _ = rw c.list_words-shares.ensures at c.in_ok-filled-2.ensures.filled in (
      job_is form text c.in_ok-n.field-0 _ _ _ _ task read first c.task-task.ensures next own other,
      rw c.count.ensures at (count_most _ (sym c.count_fits.ensures ∙ c.if-not-count_fits.false)).1,
    )
