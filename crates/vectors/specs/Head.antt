-- What a text names of its job, before the tapes.
use Rattle.std.specs.Prelude.{ℕ, ◌*◌, cond, List, get_or, replicate, Option, None}
use Rattle.std.specs.Option.{option_and_then}
use Rattle.std.proofs.lemmas.List.Edits.{sets}
use Rattle.protocol.specs.Sizes.{count_fits}
use Rattle.rules.specs.Tasks.{count_of}
use Rattle.rules.specs.declared.state.Task.{Task}
use Rattle.rules.specs.declared.state.Task.TheVariants.{Compare, Band}
use Rattle.vectors.specs.declared.head.Form.{Form}
use Rattle.vectors.specs.declared.head.Form.TheVariants.{Single, Joined, Band as OfBand}
use Rattle.vectors.specs.declared.head.Job.{Job}
use Rattle.vectors.specs.Numbers.{numbers_from, read_to, rest_after}

-- how many numbers stand before the shares: n, pair, first tape number and, of several comparisons, the count, or a band's bounds
abbrev pub head_words : Form → ℕ
head_words Single = 3
head_words Joined = 4
head_words OfBand = 5

-- what is asked, by the fourth of them and the fifth
abbrev pub task_in : Form → ℕ → ℕ → Task
task_in Single fourth fifth = Compare 1
task_in Joined fourth fifth = Compare fourth
task_in OfBand fourth fifth = Band fourth fifth

-- how many words a box's list has: two shares for each comparison, or a band's one of a
abbrev pub list_words : Task → ℕ
list_words (Compare count) = 2 * count
list_words (Band low high) = 1

-- these numbers, and 0 past them
abbrev pub head_in : Form → List ℕ → List ℕ
head_in form text = sets (replicate 5 0) 0 (numbers_from (head_words form) text)

-- a box's list, and 0 past it
abbrev pub list_in : Task → List ℕ → List ℕ
list_in task text = sets (replicate 16 0) 0 (numbers_from (list_words task) text)

-- the job at a text's front: box 1's list, then box 2's
abbrev pub job_in : Form → List ℕ → Job
job_in form text =
    let h = head_in form text in
    let task = task_in form (get_or h 3 0) (get_or h 4 0) in
    let rest = rest_after (head_words form) text in
    record {
      n = get_or h 0 0;
      pair = get_or h 1 0;
      first = get_or h 2 0;
      task = task;
      box1 = list_in task rest;
      box2 = list_in task (rest_after (list_words task) rest);
    }

-- the text after it, where all these numbers are there and there are 1 to 8 comparisons
unfoldable pub past_job : Form → List ℕ → Option (List ℕ)
past_job form text =
    let task = (job_in form text).task in
    option_and_then
    (λ rest.
    cond (count_fits (count_of task)) (option_and_then (λ others. read_to (list_words task) others) (read_to (list_words task) rest)) None)
    (read_to (head_words form) text)
