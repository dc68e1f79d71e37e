-- The same schedule of jobs: two runs over one list open the same jobs, whatever valid tapes they use, where both meet the premises, or where
-- the first does and no hear is lent a message of a larger width. The second then meets them too.
use Prim.Native.Nat.{ℕ, suc}
use mathlib.Core.Path.{◌≡◌, refl, sym, ap, ◌∙◌}
use mathlib.Core.Bool.{Bool, true, false, true≢false}
use mathlib.Core.List.{List, [], ◌∷◌}
use native.Mathlib.Nat.{le_of_eq}
use lib.ListN.{length}
use Rattle.refusals.specs.Grounds.{earliest_of}
use Rattle.refusals.proofs.Chains.{first_none, both_none}
use Rattle.rules.specs.Tasks.{count_of}
use Rattle.rules.specs.Grounds.{turn_grounds, word_grounds, words_fit, hear_ground}
use Rattle.rules.specs.declared.state.Turn.TheVariants.{Hear}
use Rattle.rules.specs.declared.state.State.{State}
use Rattle.guarantees.specs.Boxes.{Box}
use Rattle.guarantees.specs.Keys.{Key, key_at}
use Rattle.guarantees.specs.Entries.{Incoming, spoken_at, other, Step, wake, start, speak, hear, drop, cut, cut_start, Entry}
use Rattle.guarantees.specs.Run.{Setting, Memory, Event, World, memory_of, event_at, tape_words, line_words, stepped, run}
use Rattle.guarantees.specs.View.{covered}
use Rattle.guarantees.specs.Premises.{TrueMessage, Keeps, Meets, Compatible, AllCompatible}
use Rattle.guarantees.specs.AnyTapes.{NotWider, Narrow, AllNarrow}
use Rattle.guarantees.proofs.LowEquivalence.{LowState, LowEquivalent}
use Rattle.rules.proofs.Passed.{hear_passed}
use Rattle.guarantees.proofs.Refusals.{TapesAlike, turn_same, speak_same, hear_same}
use Rattle.guarantees.proofs.StepConsistency.{SameGround, step_consistent}
use Rattle.guarantees.proofs.Outcomes.{message_of_lem, uncover_message}
use Rattle.guarantees.proofs.Deliveries.{ground_lent}
use Rattle.guarantees.proofs.Fitting.{Fitting, fitting_next}
use Rattle.guarantees.proofs.Jobs.{InOrder}
use Rattle.guarantees.proofs.Tapes.{tapes_alike}
use Rattle.guarantees.proofs.SameGrounds.{start_ground_lem, compatible_back, key_same, true_too, true_back, keeps_too}

-- ---- refused alike before the last ground

-- past every other ground a hear looks at the words
words_last : (s : State) (first round : ℕ) (tapes work incoming : List ℕ) → earliest_of (turn_grounds s first (Hear round) tapes work incoming) ≡ 0
    → hear_ground s first round tapes work incoming ≡ earliest_of (word_grounds s.n incoming)
unfolding hear_ground
words_last s first round tapes work incoming passed =
    first_none (turn_grounds s first (Hear round) tapes work incoming) (word_grounds s.n incoming) passed

-- and takes those that fit
words_taken : (s : State) (first round : ℕ) (tapes work incoming : List ℕ) → earliest_of (turn_grounds s first (Hear round) tapes work incoming) ≡ 0
    → words_fit s.n incoming ≡ true → hear_ground s first round tapes work incoming ≡ 0
words_taken s first round tapes work incoming passed fits = words_last s first round tapes work incoming passed ∙ rw fits refl

-- a hear that is taken passed them
turn_taken : (s : State) (first round : ℕ) (tapes work incoming : List ℕ) → hear_ground s first round tapes work incoming ≡ 0
    → earliest_of (turn_grounds s first (Hear round) tapes work incoming) ≡ 0
unfolding hear_ground
turn_taken s first round tapes work incoming taken =
    (both_none (turn_grounds s first (Hear round) tapes work incoming) (word_grounds s.n incoming) taken).0

module _ {s s' : State} (t : LowState s s') (first round : ℕ) (tapes tapes' work work' incoming incoming' : List ℕ)
    (lent : TapesAlike s s.batch.first (count_of s.batch.task) tapes tapes') (room : length work ≡ length work')
    (long : length incoming ≡ length incoming') where
  turns : earliest_of (turn_grounds s first (Hear round) tapes work incoming) ≡ earliest_of (turn_grounds s' first (Hear round) tapes' work' incoming')
  turns = turn_same t first (Hear round) tapes tapes' work work' incoming incoming' lent room long

  -- taken in the second run, a message with a word above p is refused with 13 in the first
  hear_thirteen : hear_ground s' first round tapes' work' incoming' ≡ 0 → words_fit s.n incoming ≡ false
      → hear_ground s first round tapes work incoming ≡ 13
  hear_thirteen taken unfit =
      words_last s first round tapes work incoming (turns ∙ turn_taken s' first round tapes' work' incoming' taken) ∙ rw unfit refl

  -- where a message that is taken in one run fits in the other, both refuse alike
  hear_alike : (hear_ground s first round tapes work incoming ≡ 0 → words_fit s.n incoming' ≡ true)
      → (hear_ground s' first round tapes' work' incoming' ≡ 0 → words_fit s.n incoming ≡ true)
      → hear_ground s first round tapes work incoming ≡ hear_ground s' first round tapes' work' incoming'
  hear_alike there back =
      hear_same t first round tapes tapes' work work' incoming incoming' lent room long
      (λ passed. go passed (words_fit s.n incoming) (words_fit s.n incoming') refl refl)
    where
      go : earliest_of (turn_grounds s first (Hear round) tapes work incoming) ≡ 0 → (u v : Bool) → words_fit s.n incoming ≡ u → words_fit s.n incoming' ≡ v
          → words_fit s.n incoming ≡ words_fit s.n incoming'
      go passed true true p q = p ∙ sym q
      go passed false false p q = p ∙ sym q
      go passed true false p q = absurd (true≢false (sym (there (words_taken s first round tapes work incoming passed p)) ∙ q))
      go passed false true p q =
          absurd (true≢false (sym (back (words_taken s' first round tapes' work' incoming' (sym turns ∙ passed) (rw (← t.n) q))) ∙ p))

-- ---- two runs

module _ (g g' : Setting) (pair : ℕ) (orders : InOrder g pair) (orders' : InOrder g' pair) where
  pub record Comparable (w w' : World) : Type 0 where
    pub low : LowEquivalent w w'
    pub fits : Fitting w.log
    pub fits' : Fitting w'.log

  -- a true message fits
  true_fits : (log : List Event) → Fitting log → (c : Box) (key : Key) (round : ℕ) (incoming : Incoming) → TrueMessage log c key round incoming
      → words_fit key.width (line_words log incoming) ≡ true
  true_fits log fits c key round incoming t =
      rw t.named (fits t.place key.width (λ told. le_of_eq (ap (λ (k : Key). k.width) t.under)))

  -- both runs heard as many words
  long_same : (w w' : World) → LowEquivalent w w' → (incoming : Incoming)
      → length (line_words w.log incoming) ≡ length (line_words w'.log incoming)
  long_same w w' k (spoken_at place) = (k.events place).long
  long_same w w' k (other words) = refl

  -- what the second run asks of the first: a message taken there has its words below p here
  abbrev Below : World → World → Box → Step → Type 0
  Below w w' c (wake n side p) = Unit {0}
  Below w w' c (start first task lent) = Unit {0}
  Below w w' c (speak first round lent out) = Unit {0}
  Below w w' c (hear first round lent incoming) =
      hear_ground (memory_of w' c).state first round (tape_words g' lent) (memory_of w' c).work (line_words w'.log incoming) ≡ 0
      → words_fit (memory_of w c).state.n (line_words w.log incoming) ≡ true
  Below w w' c drop = Unit {0}
  Below w w' c (cut room) = Unit {0}
  Below w w' c (cut_start first task lent at mark room) = Unit {0}

  same_ground : (place : ℕ) (w w' : World) (c : Box) (step : Step) → Comparable w w' → Compatible g'.shares g place w c step
      → Keeps g place w c step → Below w w' c step → SameGround g g' place w w' c step
  same_ground place w w' c (wake n side p) j h keeps below = tt
  same_ground place w w' c (start first task lent) j h keeps below = start_ground_lem g g' pair orders orders' w w' j.low place c first task lent h
  same_ground place w w' c (speak first round lent out) j h keeps below =
      let s = (memory_of w c).state in
      let t = j.low.memories c in
      speak_same t.state first round _ _ _ _ out (tapes_alike g g' pair orders orders' s s.batch.first (count_of s.batch.task) lent) t.room
  same_ground place w w' c (hear first round lent incoming) j h keeps below =
      let s = (memory_of w c).state in
      let t = j.low.memories c in
      let spelled = ground_lent g place (memory_of w c) w.log first round lent incoming in
      spelled
      ∙ hear_alike t.state first round _ _ _ _ _ _ (tapes_alike g g' pair orders orders' s s.batch.first (count_of s.batch.task) lent) t.room
      (long_same w w' j.low incoming)
      (λ taken. true_fits w'.log j.fits' c (key_at s first) round incoming (true_too w w' j.low c _ _ round incoming refl (keeps (spelled ∙ taken)).1))
      below
      ∙ sym (ground_lent g' place (memory_of w' c) w'.log first round lent incoming)
  same_ground place w w' c drop j h keeps below = tt
  same_ground place w w' c (cut room) j h keeps below = tt
  same_ground place w w' c (cut_start first task lent at mark room) j h keeps below =
      start_ground_lem g g' pair orders orders' w w' j.low place c first task lent h

  comparable_next : (place : ℕ) (w w' : World) (c : Box) (step : Step) → Comparable w w' → SameGround g g' place w w' c step
      → Comparable (stepped g place w c step) (stepped g' place w' c step)
  comparable_next place w w' c step j f =
      record {
        low = step_consistent g g' place w w' c step j.low f;
        fits = fitting_next g place w c step j.fits;
        fits' = fitting_next g' place w' c step j.fits';
      }

  -- ---- both runs meet the premises

  true_below : (place : ℕ) (w w' : World) (c : Box) (step : Step) → Comparable w w' → Keeps g' place w' c step → Below w w' c step
  true_below place w w' c (wake n side p) j keeps = tt
  true_below place w w' c (start first task lent) j keeps = tt
  true_below place w w' c (speak first round lent out) j keeps = tt
  true_below place w w' c (hear first round lent incoming) j keeps =
      λ taken.
      true_fits w.log j.fits c (key_at (memory_of w c).state first) round incoming
      (true_back w w' j.low c _ _ round incoming (key_same j.low c first)
      (keeps (ground_lent g' place (memory_of w' c) w'.log first round lent incoming ∙ taken)).1)
  true_below place w w' c drop j keeps = tt
  true_below place w w' c (cut room) j keeps = tt
  true_below place w w' c (cut_start first task lent at mark room) j keeps = tt

  pub same_schedule : (es : List Entry) (place : ℕ) (w w' : World) → Comparable w w' → AllCompatible g'.shares g place w es
      → Meets g place w es → Meets g' place w' es → LowEquivalent (run g place w es) (run g' place w' es)
  same_schedule [] place w w' j compatible meets meets' = j.low
  same_schedule (e ∷ es) place w w' j compatible meets meets' =
      same_schedule es (suc place) _ _
      (comparable_next place w w' e.box e.step j
      (same_ground place w w' e.box e.step j compatible.0 meets.0 (true_below place w w' e.box e.step j meets'.0)))
      compatible.1 meets.1 meets'.1

  -- ---- the first does, and no message is of a larger width

  -- spoken under no larger width, a message fits
  narrow_fits : (log : List Event) → Fitting log → (n place : ℕ) → NotWider log n (spoken_at place) → words_fit n (event_at log place).spoken ≡ true
  narrow_fits log fits n place least =
      fits place n
      (λ told.
      let m = message_of_lem (event_at log place).said told in
      least m.count m.is)

  -- so a hear is refused with 13 for other words only, which are the same in both runs
  narrow_below : (place : ℕ) (w w' : World) (c : Box) (step : Step) → Comparable w w' → Narrow g place w c step → Below w w' c step
  narrow_below place w w' c (wake n side p) j narrow = tt
  narrow_below place w w' c (start first task lent) j narrow = tt
  narrow_below place w w' c (speak first round lent out) j narrow = tt
  narrow_below place w w' c (hear first round lent (spoken_at from)) j narrow = λ taken. go (words_fit m.state.n incoming) refl taken
    where
      m : Memory
      m = memory_of w c

      incoming : List ℕ
      incoming = (event_at w.log from).spoken

      go : (b : Bool) → words_fit m.state.n incoming ≡ b
          → hear_ground (memory_of w' c).state first round (tape_words g' lent) (memory_of w' c).work (event_at w'.log from).spoken ≡ 0
          → words_fit m.state.n incoming ≡ true
      go true fits taken = fits
      go false unfit taken =
          let t = j.low.memories c in
          narrow_fits w.log j.fits m.state.n from
          (narrow
          (ground_lent g place (memory_of w c) w.log first round lent (spoken_at from)
          ∙ hear_thirteen t.state first round _ _ _ _ incoming _
          (tapes_alike g g' pair orders orders' m.state m.state.batch.first (count_of m.state.batch.task) lent) t.room
          (j.low.events from).long taken unfit))
  narrow_below place w w' c (hear first round lent (other words)) j narrow =
      λ taken. rw (j.low.memories c).state.n (hear_passed (memory_of w' c).state first round _ _ words taken).words
  narrow_below place w w' c drop j narrow = tt
  narrow_below place w w' c (cut room) j narrow = tt
  narrow_below place w w' c (cut_start first task lent at mark room) j narrow = tt

  narrow_too : (place : ℕ) (w w' : World) (c : Box) (step : Step) → LowEquivalent w w' → SameGround g g' place w w' c step → Narrow g place w c step
      → Narrow g' place w' c step
  narrow_too place w w' c (wake n side p) k f narrow = tt
  narrow_too place w w' c (start first task lent) k f narrow = tt
  narrow_too place w w' c (speak first round lent out) k f narrow = tt
  narrow_too place w w' c (hear first round lent (spoken_at from)) k f narrow =
      λ cause count said.
      let se = k.events from in
      rw (← se.key, ← (k.memories c).state.n) (narrow (f ∙ cause) count (uncover_message _ count (se.said ∙ ap covered said)))
  narrow_too place w w' c (hear first round lent (other words)) k f narrow = λ cause. tt
  narrow_too place w w' c drop k f narrow = tt
  narrow_too place w w' c (cut room) k f narrow = tt
  narrow_too place w w' c (cut_start first task lent at mark room) k f narrow = tt

  -- what then holds of the second run
  pub record Lasts (es : List Entry) (place : ℕ) (w' : World) : Type 0 where
    pub meets : Meets g' place w' es
    pub compatible : AllCompatible g.shares g' place w' es
    pub narrow : AllNarrow g' place w' es

  pub lasts : (es : List Entry) (place : ℕ) (w w' : World) → Comparable w w' → AllCompatible g'.shares g place w es
      → Meets g place w es → AllNarrow g place w es → Lasts es place w'
  lasts [] place w w' j compatible meets narrow = record { meets = tt; compatible = tt; narrow = tt }
  lasts (e ∷ es) place w w' j compatible meets narrow =
      let f = same_ground place w w' e.box e.step j compatible.0 meets.0 (narrow_below place w w' e.box e.step j narrow.0) in
      let rest = lasts es (suc place) _ _ (comparable_next place w w' e.box e.step j f) compatible.1 meets.1 narrow.1 in
      record {
        meets = (keeps_too g g' place w w' j.low e.box e.step f meets.0, rest.meets);
        compatible = (compatible_back g g' place w w' e.box e.step j.low compatible.0, rest.compatible);
        narrow = (narrow_too place w w' e.box e.step j.low f narrow.0, rest.narrow);
      }
