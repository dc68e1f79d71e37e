-- Demand 2 over lists. Every message and the answer shares are the exchanges', for what was lent at the two starts; where both boxes finish
-- one job, their answer shares add up to the bits for that: for each of the comparisons that its start took, or for its band.
use Rattle.std.specs.Prelude.{ℕ, ◌+◌, ◌%◌, ◌<◌, ◌≡◌, List, length, get_or}
use Rattle.field.specs.Width.{modulus}
use Rattle.rules.specs.Answers.{started, spoke, finished}
use Rattle.rules.specs.Tasks.{answer_count}
use Rattle.rules.specs.Bits.{right_bit}
use Rattle.guarantees.specs.Boxes.{Box, box1, box2}
use Rattle.guarantees.specs.Keys.{Key}
use Rattle.guarantees.specs.Entries.{Entry}
use Rattle.guarantees.specs.Run.{Lending, Setting, Said, replied, Event, World, event_at, run}
use Rattle.guarantees.specs.Premises.{AtFirst, AllDealt, Meets}
use Rattle.guarantees.specs.Jobs.{sent_by, answers_by}

-- at that place of the list this was said to the box, under that job
pub record Happened (log : List Event) (place : ℕ) (b : Box) (key : Key) (said : Said) : Type 0 where
  pub within : place < length log
  pub box : (event_at log place).box ≡ b
  pub under : (event_at log place).key ≡ key
  pub said_is : (event_at log place).said ≡ said

-- the box opened that job
pub record Begun (log : List Event) (b : Box) (key : Key) : Type 0 where
  pub place : ℕ
  pub start : Happened log place b key (replied started)

-- every message and the answer shares are those of the exchanges of its job
pub record Exchanged (g : Setting) (log : List Event) : Type 0 where
  -- the shares lent at each box's start; where it had none they are of no account
  pub book : Box → Key → Lending
  pub lent : (b : Box) (place : ℕ) (key : Key) → Happened log place b key (replied started) → book b key ≡ g.shares b place
  pub messages : (b : Box) (place : ℕ) (key : Key) (count : ℕ) → Happened log place b key (replied (spoke count))
      → Begun log b key × ((event_at log place).spoken ≡ sent_by g.tapes book b key (event_at log place).round)
  pub answers : (b : Box) (place : ℕ) (key : Key) (vs : List ℕ) → Happened log place b key (replied (finished vs))
      → Begun log b key × (vs ≡ answers_by g.tapes book b key)

-- each box has one start of the job, and the answers vs1 and vs2 add up to the bits for the shares lent there
pub record Right (g : Setting) (log : List Event) (key : Key) (vs1 vs2 : List ℕ) : Type 0 where
  pub place : Box → ℕ
  pub opened : (b : Box) → Happened log (place b) b key (replied started)
  pub only : (b : Box) (other : ℕ) → Happened log other b key (replied started) → other ≡ place b
  pub sum : (i : ℕ) → i < answer_count key.task
      → (get_or vs1 i 0 + get_or vs2 i 0) % modulus key.width ≡ right_bit key.width key.task (g.shares box1 (place box1)) (g.shares box2 (place box2)) i

pub record Correct (g : Setting) (log : List Event) : Type 0 where
  pub exchanged : Exchanged g log
  pub right : (place1 place2 : ℕ) (key : Key) (vs1 vs2 : List ℕ) → Happened log place1 box1 key (replied (finished vs1))
      → Happened log place2 box2 key (replied (finished vs2)) → Right g log key vs1 vs2

abbrev pub Correctness : Type 0
Correctness =
    (g : Setting) (pair : ℕ) (w : World) (entries : List Entry) → AtFirst w → AllDealt g.tapes box1 pair → Meets g 0 w entries
    → Correct g (run g 0 w entries).log
