-- For the depots, which shred the record of old tapes up to the highest one used (document 02, P4): at each box the numbers of the jobs that it
-- opens only go up, whatever is cut. It holds over every list, with any tapes, shares and tallies; no premise of demand 3 is asked.
use Rattle.std.specs.Prelude.{ℕ, ◌+◌, ◌<◌, ◌≤◌, ◌≡◌, false, List, [], length}
use Rattle.tally.specs.Tally.{tapes_of, is_fresh}
use Rattle.rules.specs.Answers.{started}
use Rattle.rules.specs.Tasks.{count_of}
use Rattle.guarantees.specs.Boxes.{Box}
use Rattle.guarantees.specs.Keys.{Key}
use Rattle.guarantees.specs.Entries.{Entry}
use Rattle.guarantees.specs.Run.{Setting, replied, Event, World, memory_of, run}
use Rattle.guarantees.specs.Correctness.{Happened}

-- of two jobs that a box opened, every number of the later is above every number of the earlier
abbrev pub Rising : List Event → Type 0
Rising log =
    (b : Box) (earlier later : ℕ) (key key' : Key) → earlier < later → Happened log earlier b key (replied started)
    → Happened log later b key' (replied started) → key.first + count_of key.task ≤ key'.first

-- a tape of the box is spent: by a job, by a cut that left its mark half written, or before the list
pub record SpentAt (w : World) (b : Box) (number : ℕ) : Type 0 where
  pub within : number < tapes_of (length (memory_of w b).tally)
  pub spent : is_fresh (memory_of w b).tally number ≡ false

pub record OnlyUp : Type 0 where
  -- over a whole list
  pub rising : (g : Setting) (w : World) (entries : List Entry) → w.log ≡ [] → Rising (run g 0 w entries).log
  -- from any point on: a job that a box opens has only higher numbers than every tape spent there, so none up to the highest comes back
  pub above : (g : Setting) (place : ℕ) (w : World) (entries : List Entry) (b : Box) (number later : ℕ) (key : Key) → SpentAt w b number
      → length w.log ≤ later → Happened (run g place w entries).log later b key (replied started) → number < key.first
