-- The job that a text names, from what was read of it.
use Rattle.std.proofs.Common.{◌≡◌, ℕ, List, get_or, Some, refl, ap, ◌∙◌}
use Rattle.rules.specs.declared.state.Task.{Task}
use Rattle.vectors.specs.declared.head.Form.{Form}
use Rattle.vectors.specs.declared.head.Job.{Job}
use Rattle.vectors.specs.Numbers.{read_to}
use Rattle.vectors.specs.Head.{head_words, task_in, list_words, head_in, list_in, job_in}

-- by the numbers before the shares, what they ask, and both boxes' lists
abbrev pub job_of : List ℕ → Task → List ℕ → List ℕ → Job
job_of head task box1 box2 =
    record { n = get_or head 0 0; pair = get_or head 1 0; first = get_or head 2 0; task = task; box1 = box1; box2 = box2 }

pub job_is : (form : Form) (text head rest others box1 box2 : List ℕ) (task : Task) → Some rest ≡ read_to (head_words form) text
    → head ≡ head_in form text → task ≡ task_in form (get_or head 3 0) (get_or head 4 0) → Some others ≡ read_to (list_words task) rest
    → box1 ≡ list_in task rest → box2 ≡ list_in task others → job_of head task box1 box2 ≡ job_in form text
job_is form text head rest others box1 box2 task read first asked next own other =
    let asks : task ≡ (job_in form text).task = asked ∙ ap (λ (h : List ℕ). task_in form (get_or h 3 0) (get_or h 4 0)) first in
    let after : Some others ≡ read_to (list_words (job_in form text).task) rest = rw asks at next in
    rw (own, other, first, asks, ← read, ← after) refl
