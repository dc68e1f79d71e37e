-- Which lists meet the premises. Document 01 says that a list still meets them with any other valid tapes and in-range shares. That is so with
-- one exception: a message that the other box spoke under a larger width can have as many words as the one that is due, in rounds 4 and 5 at any count, and
-- in any round where the counts make up for the widths (document 02, P9). Then a hear can come as far as ground 13 with it. Whether all its words happen to
-- be at most p depends on the tapes; where they are, the hear is not refused though the message is not true.
use Rattle.std.specs.Prelude.{ℕ, suc, ◌≤◌, ◌≡◌, List, [], ◌∷◌}
use Rattle.rules.specs.Answers.{spoke}
use Rattle.rules.specs.Grounds.{hear_ground}
use Rattle.guarantees.specs.Boxes.{Box}
use Rattle.guarantees.specs.Entries.{Incoming, spoken_at, other, Step, wake, start, speak, hear, drop, cut, cut_start, Entry}
use Rattle.guarantees.specs.Run.{Lending, Setting, Event, replied, World, memory_of, event_at, tape_words, incoming_words, stepped}
use Rattle.guarantees.specs.Comparison.{TapeSet, Common, Loose, Valid, world_of, setting_of, Premises, Witness}

-- a message, if that is what is lent, was spoken under no larger width
abbrev pub NotWider : List Event → ℕ → Incoming → Type 0
NotWider log n (spoken_at place) = (count : ℕ) → (event_at log place).said ≡ replied (spoke count) → (event_at log place).key.width ≤ n
NotWider log n (other words) = Unit {0}

-- no hear that is refused with 13 is lent a message of a larger width. One that is not refused is lent a true message, of its own width
abbrev pub Narrow : Setting → ℕ → World → Box → Step → Type 0
Narrow g place w b (wake n side p) = Unit {0}
Narrow g place w b (start first task lent) = Unit {0}
Narrow g place w b (speak first round lent out) = Unit {0}
Narrow g place w b (hear first round lent incoming) =
    hear_ground (memory_of w b).state first round (tape_words g lent) (memory_of w b).work
    (incoming_words g place (memory_of w b).state w.log incoming) ≡ 13
    → NotWider w.log (memory_of w b).state.n incoming
Narrow g place w b drop = Unit {0}
Narrow g place w b (cut room) = Unit {0}
Narrow g place w b (cut_start first task lent at mark room) = Unit {0}

-- every entry from a place on
abbrev pub AllNarrow : Setting → ℕ → World → List Entry → Type 0
AllNarrow g place w [] = Unit {0}
AllNarrow g place w (e ∷ es) = Narrow g place w e.box e.step × AllNarrow g (suc place) (stepped g place w e.box e.step) es

-- so of the run with these tapes and shares
abbrev pub NoneWider : Common → Box → (ℕ → Lending) → TapeSet → Loose → Type 0
NoneWider c b shares own w = AllNarrow (setting_of c b own shares w) 0 (world_of c w) c.entries

-- where none is, the premises with one valid set, work and spelling give them with every valid set, any work and spelling and the second shares;
-- and none is there
abbrev pub AnyTapes : Type 0
AnyTapes =
    (c : Common) (b : Box) (shares shares' : ℕ → Lending) (e : Witness c b shares shares') → NoneWider c b shares e.own e.loose
    → (own : TapeSet) → Valid c b own → (w : Loose) → Premises c b shares' shares own w × NoneWider c b shares' own w
