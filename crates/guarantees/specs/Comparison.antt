-- Two runs over one list that differ in one box's tapes and shares: what they have in common, what may differ, and when they meet the premises.
use Rattle.std.specs.Prelude.{ℕ, ◌≡◌, Bool, true, List, []}
use Rattle.lists.specs.Tabulate.{tabulate}
use Rattle.field.specs.Width.{listed}
use Rattle.tape.specs.Dealt.{Matched}
use Rattle.rules.specs.declared.state.State.{State}
use Rattle.guarantees.specs.Boxes.{Box, box1, box2, side_of}
use Rattle.guarantees.specs.Entries.{Entry}
use Rattle.guarantees.specs.Run.{Lending, Setting, Memory, Event, World, run}
use Rattle.guarantees.specs.Premises.{AtFirst, Meets, AllCompatible}

-- a tape of a box for each number and width
abbrev pub TapeSet : Type 0
TapeSet = ℕ → ℕ → List ℕ

-- what box b has, and what the other has
abbrev pub by_box : {A : Type 0} → Box → A → A → Box → A
by_box box1 own others box1 = own
by_box box1 own others box2 = others
by_box box2 own others box1 = others
by_box box2 own others box2 = own

-- what stays the same in both runs: the list, the states and tallies at first, the length of work, the pair number, and the other box's
-- tapes and shares
pub record Common : Type 0 where
  pub entries : List Entry
  pub states : Box → State
  pub tallies : Box → List ℕ
  pub rooms : Box → ℕ
  pub pair : ℕ
  pub others : TapeSet
  pub lendings : ℕ → Lending

-- what may differ at will: the words of work at first and after a cut, and which zeros the board respells
pub record Loose : Type 0 where
  pub works : Box → ℕ → ℕ
  pub leftovers : ℕ → ℕ → ℕ
  pub board : ℕ → ℕ → Bool

-- ---- tapes

-- a tape of box b makes, with the other box's of that number and width, a pair dealt by the rules; the width is listed then
abbrev pub Matching : Common → Box → ℕ → ℕ → List ℕ → Type 0
Matching c b number n tape = Matched n c.pair number (side_of b) tape (c.others number n)

-- a valid tape set
abbrev pub Valid : Common → Box → TapeSet → Type 0
Valid c b own = (number n : ℕ) → listed n ≡ true → Matching c b number n (own number n)

-- a map of tapes, for each number and width by itself
abbrev pub TapeMap : Type 0
TapeMap = ℕ → ℕ → List ℕ → List ℕ

-- the set of the images
abbrev pub image : TapeMap → TapeSet → TapeSet
image map own number n = map number n (own number n)

-- ---- runs

abbrev pub memory_at : Common → Loose → Box → Memory
memory_at c w b = record { state = c.states b; work = tabulate (c.rooms b) (w.works b); tally = c.tallies b }

abbrev pub world_of : Common → Loose → World
world_of c w = record { memory1 = memory_at c w box1; memory2 = memory_at c w box2; log = [] }

-- box b has these tapes and shares
abbrev pub setting_of : Common → Box → TapeSet → (ℕ → Lending) → Loose → Setting
setting_of c b own shares w =
    record { tapes = by_box b own c.others; shares = by_box b shares c.lendings; leftovers = w.leftovers; board = w.board }

abbrev pub events : Common → Box → TapeSet → (ℕ → Lending) → Loose → List Event
events c b own shares w = (run (setting_of c b own shares w) 0 (world_of c w) c.entries).log

-- the premises of the run with these tapes and the first shares, the second shares being in range with them
pub record Premises (c : Common) (b : Box) (shares shares' : ℕ → Lending) (own : TapeSet) (w : Loose) : Type 0 where
  pub asleep : AtFirst (world_of c w)
  pub meets : Meets (setting_of c b own shares w) 0 (world_of c w) c.entries
  pub compatible : AllCompatible (by_box b shares' c.lendings) (setting_of c b own shares w) 0 (world_of c w) c.entries

-- a valid set, words of work and spellings with which the list meets the premises
pub record Witness (c : Common) (b : Box) (shares shares' : ℕ → Lending) : Type 0 where
  pub own : TapeSet
  pub loose : Loose
  pub valid : Valid c b own
  pub premises : Premises c b shares shares' own loose
