-- A run threads state, work and tally of each box through the list, by the very rules that the contracts of the five calls cite.
use Rattle.std.specs.Prelude.{ℕ, zero, suc, ◌+◌, Bool, ◌&&◌, cond, List, [], ◌∷◌, ◌++◌, eqb, ltb}
use Rattle.lists.specs.Tabulate.{tabulate}
use Rattle.lists.specs.Joined.{chained}
use Rattle.field.specs.Width.{listed}
use Rattle.shares.specs.Reading.{delivered}
use Rattle.rules.specs.Answers.{Reply, spoken_words}
use Rattle.tally.specs.Tally.{cut_marks}
use Rattle.rules.specs.Tasks.{count_of}
use Rattle.rules.specs.Modes.{mode_of, in_job, asleep_state}
use Rattle.rules.specs.Grounds.{start_ground}
use Rattle.rules.specs.Calls.{Result, wake_rule, start_rule, speak_rule, hear_rule, drop_rule}
use Rattle.rules.specs.declared.state.State.{State}
use Rattle.guarantees.specs.Boxes.{Box, box1, box2}
use Rattle.guarantees.specs.Keys.{Key, job_key, no_key, key_at, open_key}
use Rattle.guarantees.specs.Entries.{Lent, dealt, loose, Incoming, spoken_at, other, Step, wake, start, speak, hear, drop, cut, cut_start, Entry}

-- the shares lent at a start: of comparisons x and y of the first, then of the next; of a band its one share of a
abbrev pub Lending : Type 0
Lending = List ℕ

-- what a run is given beside the list: the dealt tapes by box, number and width; the shares by box and the start's place; the words that
-- work holds after a cut, by the cut's place; which zeros the link board spells as p, by the hear's place and the word's index
pub record Setting : Type 0 where
  pub tapes : Box → ℕ → ℕ → List ℕ
  pub shares : Box → ℕ → Lending
  pub leftovers : ℕ → ℕ → ℕ
  pub board : ℕ → ℕ → Bool

-- what one box keeps and is lent
pub record Memory : Type 0 where
  pub state : State
  pub work : List ℕ
  pub tally : List ℕ

-- what an entry came to: a reply, or a cut, which says nothing and may have closed a job
pub data Said : Type 0 where
  nothing : Said
  lost : Said
  replied : Reply → Said

-- one for each entry passed: the box, the job and round that it was about, what was said, the words spoken and heard
pub record Event : Type 0 where
  pub box : Box
  pub key : Key
  pub round : ℕ
  pub said : Said
  pub spoken : List ℕ
  pub incoming : List ℕ

pub record World : Type 0 where
  pub memory1 : Memory
  pub memory2 : Memory
  pub log : List Event

abbrev pub memory_of : World → Box → Memory
memory_of w box1 = w.memory1
memory_of w box2 = w.memory2

-- one box's memory and the log go on, the other box's memory stays
abbrev pub after : World → Box → Memory → Event → World
after w box1 m e = record { memory1 = m; memory2 = w.memory2; log = w.log ++ (e ∷ []) }
after w box2 m e = record { memory1 = w.memory1; memory2 = m; log = w.log ++ (e ∷ []) }

abbrev pub quiet : Event
quiet = record { box = box1; key = no_key 0; round = 0; said = nothing; spoken = []; incoming = [] }

-- the place k of the log
abbrev pub event_at : List Event → ℕ → Event
event_at [] k = quiet
event_at (e ∷ es) zero = e
event_at (e ∷ es) (suc k) = event_at es k

-- there are dealt tapes of the listed widths only
abbrev pub tape_words : Setting → Lent → List ℕ
tape_words g (dealt box first count width) = cond (listed width) (chained count (λ i. g.tapes box (first + i) width)) []
tape_words g (loose words) = words

-- the words that come over the line
abbrev pub line_words : List Event → Incoming → List ℕ
line_words log (spoken_at place) = (event_at log place).spoken
line_words log (other words) = words

-- what a hear at a place of the list is lent, refused or not: these words as the board at the hearing box delivers them, so p is of that box's
-- width
abbrev pub incoming_words : Setting → ℕ → State → List Event → Incoming → List ℕ
incoming_words g place s log incoming = delivered s.n (g.board place) (line_words log incoming)

-- a cut says nothing; where a job was open it is lost
abbrev pub cut_said : State → Said
cut_said s = cond (in_job (mode_of s)) lost nothing

-- after a start: the tally as it was left
abbrev pub after_start : Memory → Result → Memory
after_start m r = record { state = r.state; work = m.work; tally = r.buffer }

-- after a cut: asleep, the tally as it is, any words in work, as many as the list says
abbrev pub after_cut : Setting → ℕ → ℕ → Memory → List ℕ → Memory
after_cut g place room m tally =
    record { state = asleep_state m.state; work = tabulate room (g.leftovers place); tally = tally }

-- one entry, at its place of the list
unfoldable pub stepped : Setting → ℕ → World → Box → Step → World
stepped g place w b (wake n side pair) =
    let m = memory_of w b in
    let r = wake_rule m.state n side pair m.tally in
    after w b (record { state = r.state; work = m.work; tally = m.tally })
    (record { box = b; key = no_key n; round = 0; said = replied r.reply; spoken = []; incoming = [] })
stepped g place w b (start first task lent) =
    let m = memory_of w b in
    let r = start_rule m.state first task (g.shares b place) (tape_words g lent) m.work m.tally in
    after w b (after_start m r)
    (record { box = b; key = job_key first task m.state.n; round = 0; said = replied r.reply; spoken = []; incoming = [] })
stepped g place w b (speak first round lent out) =
    let m = memory_of w b in
    let r = speak_rule m.state first round (tape_words g lent) m.work out in
    after w b (record { state = r.state; work = m.work; tally = m.tally })
    (record {
      box = b;
      key = key_at m.state first;
      round = round;
      said = replied r.reply;
      spoken = spoken_words r.reply r.buffer;
      incoming = [];
    })
stepped g place w b (hear first round lent named) =
    let m = memory_of w b in
    let incoming = incoming_words g place m.state w.log named in
    let r = hear_rule m.state first round (tape_words g lent) m.work incoming in
    after w b (record { state = r.state; work = r.buffer; tally = m.tally })
    (record { box = b; key = key_at m.state first; round = round; said = replied r.reply; spoken = []; incoming = incoming })
stepped g place w b drop =
    let m = memory_of w b in
    let r = drop_rule m.state in
    after w b (record { state = r.state; work = m.work; tally = m.tally })
    (record { box = b; key = open_key m.state; round = 0; said = replied r.reply; spoken = []; incoming = [] })
stepped g place w b (cut room) =
    let m = memory_of w b in
    after w b (after_cut g place room m m.tally)
    (record { box = b; key = open_key m.state; round = 0; said = cut_said m.state; spoken = []; incoming = [] })
stepped g place w b (cut_start first task lent at mark room) =
    let m = memory_of w b in
    let k = start_ground m.state first task (g.shares b place) (tape_words g lent) m.work m.tally in
    after w b (after_cut g place room m (cond (eqb k 0 && ltb at (count_of task)) (cut_marks m.tally first at mark) m.tally))
    (record { box = b; key = open_key m.state; round = 0; said = cut_said m.state; spoken = []; incoming = [] })

-- the entries from a place on
abbrev pub run : Setting → ℕ → World → List Entry → World
run g place w [] = w
run g place w (e ∷ es) = run g (suc place) (stepped g place w e.box e.step) es
