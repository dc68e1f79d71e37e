-- The premises of demand 3, along the run (document 01, "The lists of demand 3").
use Rattle.std.specs.Prelude.{ℕ, suc, ◌<◌, ◌≡◌, true, List, [], ◌∷◌, ◌⊎◌, length, get_or}
use Rattle.field.specs.Width.{listed, modulus}
use Rattle.tape.specs.Dealt.{Matched}
use Rattle.rules.specs.Answers.{spoke}
use Rattle.rules.specs.Tasks.{count_of}
use Rattle.rules.specs.Modes.{mode_of, is_asleep}
use Rattle.rules.specs.Grounds.{speak_ground, hear_ground}
use Rattle.guarantees.specs.Boxes.{Box, side_of, other_box}
use Rattle.guarantees.specs.Keys.{Key, key_at}
use Rattle.guarantees.specs.Entries.{dealt, Incoming, spoken_at, Step, wake, start, speak, hear, drop, cut, cut_start, Entry}
use Rattle.guarantees.specs.Run.{Lending, Setting, Memory, Event, replied, World, memory_of, event_at, tape_words, incoming_words, stepped}

-- a message is true: it was spoken at an earlier place of the list by the other box, under the same job and round. So one of a joined pair is never one
-- of a band on the same tapes, nor one of a band under other bounds, though no ground of a box tells them apart (document 02, P10). Which of its zeros the board
-- respells makes no difference: after the reading it is what was spoken (shares, Deliveries)
pub record TrueMessage (log : List Event) (b : Box) (key : Key) (round : ℕ) (incoming : Incoming) : Type 0 where
  pub place : ℕ
  pub named : incoming ≡ spoken_at place
  pub earlier : place < length log
  pub by : (event_at log place).box ≡ other_box b
  pub under : (event_at log place).key ≡ key
  pub rounded : (event_at log place).round ≡ round
  pub count : ℕ
  pub uttered : (event_at log place).said ≡ replied (spoke count)

-- what an entry that is not refused keeps to; a ground of 0 is none. Document 01 also has a wake name its box's own side and pair, and a
-- start lent its box's dealt tapes. Nothing rests on either: under another side or pair a speak with the box's dealt tapes is refused with 10
abbrev pub Keeps : Setting → ℕ → World → Box → Step → Type 0
Keeps g place w b (wake n side pair) = Unit {0}
Keeps g place w b (start first task lent) = Unit {0}
Keeps g place w b (speak first round lent out) =
    let s = (memory_of w b).state in
    speak_ground s first round (tape_words g lent) (memory_of w b).work out ≡ 0 → lent ≡ dealt b first (count_of s.batch.task) s.n
Keeps g place w b (hear first round lent incoming) =
    let s = (memory_of w b).state in
    hear_ground s first round (tape_words g lent) (memory_of w b).work (incoming_words g place s w.log incoming) ≡ 0
    → (lent ≡ dealt b first (count_of s.batch.task) s.n) × TrueMessage w.log b (key_at s first) round incoming
Keeps g place w b drop = Unit {0}
Keeps g place w b (cut room) = Unit {0}
Keeps g place w b (cut_start first task lent at mark room) = Unit {0}

-- every entry from a place on keeps to them
abbrev pub Meets : Setting → ℕ → World → List Entry → Type 0
Meets g place w [] = Unit {0}
Meets g place w (e ∷ es) = Keeps g place w e.box e.step × Meets g (suc place) (stepped g place w e.box e.step) es

-- at first both boxes are asleep
pub record AtFirst (w : World) : Type 0 where
  pub asleep : (b : Box) → is_asleep (mode_of (memory_of w b).state) ≡ true
  pub no_events : w.log ≡ []

-- every dealt pair of tapes is dealt by the rules, one pair for each number and width
abbrev pub AllDealt : (Box → ℕ → ℕ → List ℕ) → Box → ℕ → Type 0
AllDealt tapes b pair =
    (number n : ℕ) → listed n ≡ true → Matched n pair number (side_of b) (tapes b number n) (tapes (other_box b) number n)

-- a share under two tables: the same, or in range in both, for its box's width or where its box is asleep
abbrev pub InBoth : Memory → ℕ → ℕ → Type 0
InBoth m v v' = (v ≡ v') ⊎ ((is_asleep (mode_of m.state) ≡ true) ⊎ ((v < modulus m.state.n) × (v' < modulus m.state.n)))

-- a start's shares under both: as many, and each as above
abbrev pub SharesInBoth : Memory → Lending → Lending → Type 0
SharesInBoth m vs vs' = (length vs ≡ length vs') × ((i : ℕ) → i < length vs → InBoth m (get_or vs i 0) (get_or vs' i 0))

-- the second table of shares, along the first run: at every start as above
abbrev pub Compatible : (Box → ℕ → Lending) → Setting → ℕ → World → Box → Step → Type 0
Compatible shares' g place w b (wake n side p) = Unit {0}
Compatible shares' g place w b (start first task lent) = SharesInBoth (memory_of w b) (g.shares b place) (shares' b place)
Compatible shares' g place w b (speak first round lent out) = Unit {0}
Compatible shares' g place w b (hear first round lent incoming) = Unit {0}
Compatible shares' g place w b drop = Unit {0}
Compatible shares' g place w b (cut room) = Unit {0}
Compatible shares' g place w b (cut_start first task lent at mark room) = SharesInBoth (memory_of w b) (g.shares b place) (shares' b place)

abbrev pub AllCompatible : (Box → ℕ → Lending) → Setting → ℕ → World → List Entry → Type 0
AllCompatible shares' g place w [] = Unit {0}
AllCompatible shares' g place w (e ∷ es) =
    Compatible shares' g place w e.box e.step × AllCompatible shares' g (suc place) (stepped g place w e.box e.step) es
