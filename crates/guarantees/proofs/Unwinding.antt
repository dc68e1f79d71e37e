-- The unwinding of two runs, entry by entry: each keeps its invariant, both stay low-equivalent, and the words spoken and heard are the same.
use Prim.Native.Nat.{ℕ, zero, suc, ◌<◌}
use mathlib.Core.Path.{◌≡◌, refl, sym, ap, ap₂, subst, ◌∙◌}
use mathlib.Core.Bool.{Bool, true, false, false≢true}
use mathlib.Core.List.{List, [], ◌∷◌, ◌++◌, map}
use native.Mathlib.Omega.{arith}
use lib.ListN.{length}
use Rattle.field.specs.Width.{listed}
use Rattle.shares.specs.Reading.{read_words}
use Rattle.shares.proofs.Reading.{delivered_read}
use Rattle.protocol.specs.Rounds.{last_round}
use Rattle.rules.specs.Tasks.{count_of}
use Rattle.rules.specs.Grounds.{words_fit}
use Rattle.guarantees.specs.Boxes.{Box, box1, box2, other_box}
use Rattle.guarantees.specs.Keys.{Key, key_at}
use Rattle.guarantees.specs.Outcomes.{Kind, opening, message, answer, plain, kind_of}
use Rattle.guarantees.specs.Entries.{Incoming, spoken_at, other, Step, wake, start, speak, hear, drop, cut, cut_start}
use Rattle.guarantees.specs.Run.{Lending, Setting, Memory, Said, nothing, Event, World, memory_of, after, event_at, line_words, incoming_words, stepped}
use Rattle.guarantees.specs.Premises.{Keeps, Compatible}
use Rattle.guarantees.specs.View.{heard_as, seen, view}
use Rattle.guarantees.proofs.LowEquivalence.{LowEvent, LowEquivalent}
use Rattle.guarantees.specs.Jobs.{sent_by, answers_by}
use Rattle.guarantees.proofs.Refusals.{speak_same, hear_same}
use Rattle.guarantees.proofs.StepConsistency.{SameGround, step_consistent}
use Rattle.guarantees.proofs.Outcomes.{is_message, kind_same, uncover, shares_are, said_at_lem}
use Rattle.guarantees.proofs.Deliveries.{ground_lent}
use Rattle.guarantees.proofs.Jobs.{InOrder}
use Rattle.guarantees.proofs.Tapes.{tapes_alike}
use Rattle.guarantees.proofs.SameGrounds.{start_ground_lem, keeps_too}
use Rattle.guarantees.proofs.Invariant.{Uttered, Answered, Conforms, Invariant, Booked, invariant_next}

pub other_twice : (b : Box) → other_box (other_box b) ≡ b
other_twice box1 = refl
other_twice box2 = refl

-- ---- what is told of an event

module _ (g : Setting) (book : Box → Key → Lending) (Known : Box → Key → Type 0) (e : Event) where
  uttered : (k : Kind) → Conforms g book Known e k → is_message k ≡ true → Uttered g book Known e
  uttered opening t h = absurd (false≢true h)
  uttered message t h = t
  uttered answer t h = absurd (false≢true h)
  uttered plain t h = absurd (false≢true h)

  silent : (k : Kind) → Conforms g book Known e k → is_message k ≡ false → e.spoken ≡ []
  silent opening t h = t
  silent message t h = absurd (false≢true (sym h))
  silent answer t h = t.silent
  silent plain t h = t

-- ---- logs

view_same : (b : Box) (log log' : List Event) → length log ≡ length log' → ((k : ℕ) → seen b (event_at log k) ≡ seen b (event_at log' k))
    → view b log ≡ view b log'
view_same b [] [] long each = refl
view_same b [] (e ∷ log') long each = absurd (omega (arith, long))
view_same b (e ∷ log) [] long each = absurd (omega (arith, long))
view_same b (e ∷ log) (e' ∷ log') long each =
    ap (λ (d : Event). d ∷ map (seen b) log) (each zero)
    ∙ ap (λ (l : List Event). seen b e' ∷ l) (view_same b log log' (omega (arith, long)) (λ k. each (suc k)))

abbrev HeardSame : List Event → List Event → Type 0
HeardSame log log' = (k : ℕ) → heard_as (event_at log k) ≡ heard_as (event_at log' k)

heard_more : (log log' : List Event) (e e' : Event) → length log ≡ length log' → HeardSame log log' → heard_as e ≡ heard_as e'
    → HeardSame (log ++ (e ∷ [])) (log' ++ (e' ∷ []))
heard_more [] [] e e' long old new zero = new
heard_more [] [] e e' long old new (suc k) = refl
heard_more [] (d' ∷ log') e e' long old new k = absurd (omega (arith, long))
heard_more (d ∷ log) [] e e' long old new k = absurd (omega (arith, long))
heard_more (d ∷ log) (d' ∷ log') e e' long old new zero = old zero
heard_more (d ∷ log) (d' ∷ log') e e' long old new (suc k) =
    heard_more log log' e e' (omega (arith, long)) (λ i. old (suc i)) new k

heard_after_lem : (w w' : World) (c : Box) (m m' : Memory) (e e' : Event) → length w.log ≡ length w'.log
    → HeardSame w.log w'.log → heard_as e ≡ heard_as e' → HeardSame (after w c m e).log (after w' c m' e').log
heard_after_lem w w' box1 m m' e e' long old new = heard_more w.log w'.log e e' long old new
heard_after_lem w w' box2 m m' e e' long old new = heard_more w.log w'.log e e' long old new

-- what a hear adds to the log, as far as its words go
abbrev hear_event : Setting → ℕ → World → Box → ℕ → Incoming → Event
hear_event g place w c first incoming =
    record {
      box = c;
      key = key_at (memory_of w c).state first;
      round = 0;
      said = nothing;
      spoken = [];
      incoming = incoming_words g place (memory_of w c).state w.log incoming;
    }

-- two books of shares, two settings, and which keys each box opened
module _ (b : Box) (g g' : Setting) (pair : ℕ) (book book' : Box → Key → Lending) (Known : Box → Key → Type 0) where
  -- the dealt tapes are in order, and what comes of each key looks the same under both: round 1 of a box that opened it, and all else where both
  -- boxes did
  pub record Alike : Type 0 where
    pub orders : InOrder g pair
    pub orders' : InOrder g' pair
    pub sent : (c : Box) (key : Key) (r : ℕ) → listed key.width ≡ true → r < last_round → Known c key → (0 < r → Known (other_box c) key)
        → sent_by g.tapes book c key (suc r) ≡ sent_by g'.tapes book' c key (suc r)
    pub answered : (key : Key) → listed key.width ≡ true → Known (other_box b) key → Known b key
        → answers_by g.tapes book (other_box b) key ≡ answers_by g'.tapes book' (other_box b) key

  -- two worlds that the runs reach at one place
  pub record Related (w w' : World) : Type 0 where
    pub low : LowEquivalent w w'
    pub invariant : Invariant g book Known w
    pub invariant' : Invariant g' book' Known w'
    pub heard_same : HeardSame w.log w'.log

  module _ (a : Alike) (w w' : World) (j : Related w w') where
    spoken_same : (k : ℕ) → (event_at w.log k).spoken ≡ (event_at w'.log k).spoken
    spoken_same k = go (is_message (kind_of e.said)) refl
      where
        e : Event
        e = event_at w.log k

        e' : Event
        e' = event_at w'.log k

        se : LowEvent e e'
        se = j.low.events k

        told : is_message (kind_of e.said) ≡ is_message (kind_of e'.said)
        told = ap is_message (kind_same e.said e'.said se.said)

        go : (t : Bool) → is_message (kind_of e.said) ≡ t → e.spoken ≡ e'.spoken
        go false q =
            silent g book Known e (kind_of e.said) (j.invariant.events k) q
            ∙ sym (silent g' book' Known e' (kind_of e'.said) (j.invariant'.events k) (sym told ∙ q))
        go true q =
            let u = uttered g book Known e (kind_of e.said) (j.invariant.events k) q in
            let u' = uttered g' book' Known e' (kind_of e'.said) (j.invariant'.events k) (sym told ∙ q) in
            let exchange : sent_by g.tapes book e.box e.key e.round ≡ sent_by g'.tapes book' e'.box e'.key e'.round =
            rw (← se.box, ← se.key, ← se.round, u.round_is) (a.sent e.box e.key u.heard u.width u.early u.own u.met) in
            u.words ∙ exchange ∙ sym u'.words

    said_same : (k : ℕ) → (event_at w.log k).box ≡ other_box b → (event_at w.log k).said ≡ (event_at w'.log k).said
    said_same k here =
        let e = event_at w.log k in
        let e' = event_at w'.log k in
        let se = j.low.events k in
        uncover e.said e'.said se.said
        (λ vs vs' q q'.
        let t : Answered g book Known e = subst (λ (s : Said). Conforms g book Known e (kind_of s)) q (j.invariant.events k) in
        let t' : Answered g' book' Known e' = subst (λ (s : Said). Conforms g' book' Known e' (kind_of s)) q' (j.invariant'.events k) in
        let own : Known (other_box b) e.key = subst (λ (c : Box). Known c e.key) here t.own in
        let met : Known b e.key = subst (λ (c : Box). Known c e.key) (ap other_box here ∙ other_twice b) t.met in
        let exchange : answers_by g.tapes book e.box e.key ≡ answers_by g'.tapes book' e'.box e'.key =
        rw (← se.box, ← se.key, here) (a.answered e.key t.width own met) in
        shares_are (sym q ∙ t.said_is) ∙ t.is ∙ exchange ∙ sym t'.is ∙ sym (shares_are (sym q' ∙ t'.said_is)))

    pub views : view b w.log ≡ view b w'.log
    views = view_same b w.log w'.log j.low.places each
      where
        each : (k : ℕ) → seen b (event_at w.log k) ≡ seen b (event_at w'.log k)
        each k =
            let e = event_at w.log k in
            let e' = event_at w'.log k in
            let se = j.low.events k in
            rw (said_at_lem b e.box e.said e'.said se.said (said_same k), spoken_same k, j.heard_same k, se.box, se.key, se.round)

    words_same : (incoming : Incoming) → line_words w.log incoming ≡ line_words w'.log incoming
    words_same (spoken_at place) = spoken_same place
    words_same (other words) = refl

    -- the same ground of refusal in both runs
    pub same_ground : (place : ℕ) (c : Box) (step : Step) → Compatible g'.shares g place w c step → SameGround g g' place w w' c step
    same_ground place c (wake n side p) h = tt
    same_ground place c (start first task lent) h = start_ground_lem g g' pair a.orders a.orders' w w' j.low place c first task lent h
    same_ground place c (speak first round lent out) h =
        let s = (memory_of w c).state in
        let t = j.low.memories c in
        speak_same t.state first round _ _ _ _ out (tapes_alike g g' pair a.orders a.orders' s s.batch.first (count_of s.batch.task) lent) t.room
    same_ground place c (hear first round lent incoming) h =
        let m = memory_of w c in
        let s = m.state in
        let t = j.low.memories c in
        ground_lent g place m w.log first round lent incoming
        ∙ hear_same t.state first round _ _ _ _ _ _ (tapes_alike g g' pair a.orders a.orders' s s.batch.first (count_of s.batch.task) lent) t.room
        (ap length (words_same incoming)) (λ passed. ap (words_fit s.n) (words_same incoming))
        ∙ sym (ground_lent g' place (memory_of w' c) w'.log first round lent incoming)
    same_ground place c drop h = tt
    same_ground place c (cut room) h = tt
    same_ground place c (cut_start first task lent at mark room) h = start_ground_lem g g' pair a.orders a.orders' w w' j.low place c first task lent h

    -- each run's board spells the words its own way; the reading is the same
    read_same : (place : ℕ) (c : Box) (first : ℕ) (incoming : Incoming)
        → heard_as (hear_event g place w c first incoming) ≡ heard_as (hear_event g' place w' c first incoming)
    read_same place c first incoming =
        delivered_read (memory_of w c).state.n (g.board place) (line_words w.log incoming)
        ∙ ap₂ read_words (j.low.memories c).state.n (words_same incoming)
        ∙ sym (delivered_read (memory_of w' c).state.n (g'.board place) (line_words w'.log incoming))

    heard_next : (place : ℕ) (c : Box) (step : Step) → HeardSame (stepped g place w c step).log (stepped g' place w' c step).log
    unfolding stepped
    heard_next place c (wake n side p) = heard_after_lem w w' c _ _ _ _ j.low.places j.heard_same refl
    heard_next place c (start first task lent) = heard_after_lem w w' c _ _ _ _ j.low.places j.heard_same refl
    heard_next place c (speak first round lent out) = heard_after_lem w w' c _ _ _ _ j.low.places j.heard_same refl
    heard_next place c (hear first round lent incoming) =
        heard_after_lem w w' c _ _ _ _ j.low.places j.heard_same (read_same place c first incoming)
    heard_next place c drop = heard_after_lem w w' c _ _ _ _ j.low.places j.heard_same refl
    heard_next place c (cut room) = heard_after_lem w w' c _ _ _ _ j.low.places j.heard_same refl
    heard_next place c (cut_start first task lent at mark room) = heard_after_lem w w' c _ _ _ _ j.low.places j.heard_same refl

    -- one entry
    pub related_next : (place : ℕ) (c : Box) (step : Step) → Keeps g place w c step → Compatible g'.shares g place w c step
        → Booked g book Known place w c step → Booked g' book' Known place w' c step
        → Related (stepped g place w c step) (stepped g' place w' c step)
    related_next place c step keeps h booked booked' =
        let f = same_ground place c step h in
        record {
          low = step_consistent g g' place w w' c step j.low f;
          invariant = invariant_next g book Known pair a.orders place w c step j.invariant keeps booked;
          invariant' = invariant_next g' book' Known pair a.orders' place w' c step j.invariant' (keeps_too g g' place w w' j.low c step f keeps) booked';
          heard_same = heard_next place c step;
        }
