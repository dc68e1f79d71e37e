-- Step consistency: where an entry's grounds of refusal are the same in two low-equivalent worlds, the worlds after it are low-equivalent too.
use Prim.Native.Nat.{ℕ, suc, ◌+◌}
use mathlib.Core.Path.{◌≡◌, refl, sym, ap, ◌∙◌}
use mathlib.Core.Bool.{Bool, true, false, cond}
use mathlib.Core.List.{List, []}
use native.Mathlib.Omega.{arith}
use lib.Dec.{eqb}
use lib.ListN.{length, length-take}
use lib.Seq.{length-sets}
use borrow.Author.Tests.{le-leb, eqb-true, eqb-false}
use Rattle.lists.proofs.Tabulate.{length_tabulate}
use Rattle.protocol.specs.Rounds.{last_round}
use Rattle.rules.specs.Answers.{refused, spoken_words}
use Rattle.rules.specs.Modes.{round_of, round_fits, in_range, mode_of, is_asleep, in_phase}
use Rattle.rules.specs.Tasks.{pairs_of}
use Rattle.rules.specs.Batches.{no_batch, batch_of, joined_after}
use Rattle.rules.specs.Grounds.{wake_ground, start_ground, speak_ground, hear_ground}
use Rattle.rules.specs.Calls.{Result, unless, wake_rule, start_rule, speak_rule, heard_after, hear_rule, drop_rule}
use Rattle.rules.specs.declared.state.Turn.{Turn}
use Rattle.rules.specs.declared.state.Turn.TheVariants.{Speak, Hear}
use Rattle.rules.specs.declared.state.Task.{Task}
use Rattle.rules.specs.declared.state.Phase.{Phase}
use Rattle.rules.specs.declared.state.Phase.TheVariants.{Asleep, Idle, Job}
use Rattle.rules.specs.declared.state.Batch.{Batch}
use Rattle.rules.specs.declared.state.State.{State}
use Rattle.rules.proofs.Ranges.{awake_range, turned_mode}
use Rattle.rules.proofs.Passed.{TurnPassed, speak_passed, hear_passed}
use Rattle.rules.proofs.Spoken.{joined_after_length}
use Rattle.rules.proofs.Moves.{started_job}
use Rattle.guarantees.specs.Boxes.{Box, box1, box2}
use Rattle.guarantees.specs.Keys.{job_key, key_at, key_of, open_key}
use Rattle.guarantees.specs.Entries.{Step, wake, start, speak, hear, drop, cut, cut_start}
use Rattle.guarantees.specs.Run.{Setting, Memory, nothing, lost, replied, Event, World, memory_of, after, tape_words, incoming_words, cut_said, after_cut, stepped}
use Rattle.guarantees.specs.View.{covered}
use Rattle.guarantees.proofs.LowEquivalence.{LowState, LowMemory, LowEvent, LowEquivalent}
use Rattle.guarantees.proofs.LowModes.{mode_same, job_same}
use Rattle.guarantees.proofs.Refusals.{wake_same, drop_same}
use Rattle.guarantees.proofs.Logs.{after_log, log_length, events_more}

-- what an entry asks: the same ground of refusal in both runs; wake and drop have it in any case
abbrev pub SameGround : Setting → Setting → ℕ → World → World → Box → Step → Type 0
SameGround g g' place w w' b (wake n side pair) = Unit {0}
SameGround g g' place w w' b (start first task lent) =
    start_ground (memory_of w b).state first task (g.shares b place) (tape_words g lent) (memory_of w b).work (memory_of w b).tally
    ≡ start_ground (memory_of w' b).state first task (g'.shares b place) (tape_words g' lent) (memory_of w' b).work (memory_of w' b).tally
SameGround g g' place w w' b (speak first round lent out) =
    speak_ground (memory_of w b).state first round (tape_words g lent) (memory_of w b).work out
    ≡ speak_ground (memory_of w' b).state first round (tape_words g' lent) (memory_of w' b).work out
SameGround g g' place w w' b (hear first round lent incoming) =
    hear_ground (memory_of w b).state first round (tape_words g lent) (memory_of w b).work (incoming_words g place (memory_of w b).state w.log incoming)
    ≡ hear_ground (memory_of w' b).state first round (tape_words g' lent) (memory_of w' b).work (incoming_words g' place (memory_of w' b).state w'.log incoming)
SameGround g g' place w w' b drop = Unit {0}
SameGround g g' place w w' b (cut room) = Unit {0}
SameGround g g' place w w' b (cut_start first task lent at mark room) =
    start_ground (memory_of w b).state first task (g.shares b place) (tape_words g lent) (memory_of w b).work (memory_of w b).tally
    ≡ start_ground (memory_of w' b).state first task (g'.shares b place) (tape_words g' lent) (memory_of w' b).work (memory_of w' b).tally

-- ---- results

-- the same up to shares and words; B says how alike the buffers are
record LowResult (B : Result → Result → Type 0) (r r' : Result) : Type 0 where
  state : LowState r.state r'.state
  reply : covered (replied r.reply) ≡ covered (replied r'.reply)
  buffer : B r r'

abbrev refusal : ℕ → State → List ℕ → Result
refusal k s buffer = record { reply = refused k; state = s; buffer = buffer }

-- refused alike, and where neither is, as the two results are
unless_low : (B : Result → Result → Type 0) (k k' : ℕ) (s s' : State) (buffer buffer' : List ℕ) (r r' : Result) → k ≡ k' → LowState s s'
    → B (refusal k s buffer) (refusal k s' buffer') → (k ≡ 0 → LowResult B r r')
    → LowResult B (unless k s buffer r) (unless k' s' buffer' r')
unless_low B k k' s s' buffer buffer' r r' e t kept done = rw (← e) (go (eqb k 0) refl)
  where
    go : (b : Bool) → eqb k 0 ≡ b → LowResult B (cond b r (refusal k s buffer)) (cond b r' (refusal k s' buffer'))
    go true h = done (eqb-true k 0 h)
    go false h = record { state = t; reply = refl; buffer = kept }

choice_low : (B : Result → Result → Type 0) (b : Bool) (r r' q q' : Result) → LowResult B r r' → (b ≡ false → LowResult B q q')
    → LowResult B (cond b r q) (cond b r' q')
choice_low B true r r' q q' t f = t
choice_low B false r r' q q' t f = f refl

-- ---- states

-- the same phase and jobs
in_phase_lem : {s s' : State} → LowState s s' → (phase : Phase) (batch : Batch) → LowState (in_phase s phase batch) (in_phase s' phase batch)
unfolding in_range
in_phase_lem t phase batch =
    record {
      n = t.n;
      side = t.side;
      pair = t.pair;
      tally = t.tally;
      phase = refl;
      first = refl;
      task = refl;
      ranged = rw (t.n, t.side, t.tally) refl;
    }

-- a turn in jobs of the same numbers, in range in both
job_low : {s s' : State} → LowState s s' → (turn : Turn) (batch batch' : Batch) → batch.first ≡ batch'.first → batch.task ≡ batch'.task
    → in_range (in_phase s (Job turn) batch) ≡ true → in_range (in_phase s' (Job turn) batch') ≡ true
    → LowState (in_phase s (Job turn) batch) (in_phase s' (Job turn) batch')
job_low t turn batch batch' first task ranged ranged' =
    record {
      n = t.n;
      side = t.side;
      pair = t.pair;
      tally = t.tally;
      phase = refl;
      first = first;
      task = task;
      ranged = ranged ∙ sym ranged';
    }

-- the next turn in the same jobs
turned_range : (s : State) (first : ℕ) (turn : Turn) (tapes : List ℕ) (next : Turn) → TurnPassed s first turn tapes → round_fits (round_of next) ≡ true
    → in_range (in_phase s (Job next) s.batch) ≡ true
turned_range s first turn tapes next p fits =
    awake_range (in_phase s (Job next) s.batch) (ap is_asleep (turned_mode s next fits (awake_range s p.awake) p.due.job))

-- ---- the five calls

abbrev Free : Result → Result → Type 0
Free r r' = Unit {0}

abbrev SameBuffer : Result → Result → Type 0
SameBuffer r r' = r.buffer ≡ r'.buffer

abbrev SameLength : Result → Result → Type 0
SameLength r r' = length r.buffer ≡ length r'.buffer

abbrev SameCount : Result → Result → Type 0
SameCount r r' = length (spoken_words r.reply r.buffer) ≡ length (spoken_words r'.reply r'.buffer)

-- the jobs that a start takes are in range
started_range : (s : State) (first : ℕ) (task : Task) (shares tapes work tally : List ℕ) → start_ground s first task shares tapes work tally ≡ 0
    → in_range (in_phase s (Job (Speak 1)) (batch_of first task (pairs_of s.side task shares))) ≡ true
unfolding start_rule
started_range s first task shares tapes work tally z =
    awake_range (in_phase s (Job (Speak 1)) (batch_of first task (pairs_of s.side task shares)))
    (ap is_asleep (rw z at (started_job s first task shares tapes work tally z)))

module _ {s s' : State} (t : LowState s s') where
  wake_low : (n side pair : ℕ) (tally tally' : List ℕ) → tally ≡ tally'
      → LowResult Free (wake_rule s n side pair tally) (wake_rule s' n side pair tally')
  unfolding wake_rule
  wake_low n side pair tally tally' equal =
      unless_low Free _ _ s s' tally tally' _ _ (wake_same t n side tally ∙ ap (wake_ground s' n side) equal) t tt
      (λ passed.
      record {
        state = record {
          n = refl;
          side = refl;
          pair = refl;
          tally = rw equal;
          phase = refl;
          first = refl;
          task = refl;
          ranged = rw equal;
        };
        reply = rw equal;
        buffer = tt;
      })

  drop_low : LowResult Free (drop_rule s) (drop_rule s')
  unfolding drop_rule
  drop_low =
      unless_low Free _ _ s s' _ _ _ _ (drop_same t) t tt
      (λ passed. record { state = in_phase_lem t Idle no_batch; reply = refl; buffer = tt })

  -- a start that is not refused has its shares in range, in both runs
  start_low : (first : ℕ) (task : Task) (shares shares' tapes tapes' work work' tally tally' : List ℕ) → tally ≡ tally'
      → start_ground s first task shares tapes work tally ≡ start_ground s' first task shares' tapes' work' tally'
      → LowResult SameBuffer (start_rule s first task shares tapes work tally) (start_rule s' first task shares' tapes' work' tally')
  unfolding start_rule
  start_low first task shares shares' tapes tapes' work work' tally tally' equal e =
      unless_low SameBuffer _ _ s s' tally tally' _ _ e t equal
      (λ passed.
      record {
        state =
            job_low t (Speak 1) (batch_of first task (pairs_of s.side task shares)) (batch_of first task (pairs_of s'.side task shares')) refl refl
            (started_range s first task shares tapes work tally passed)
            (started_range s' first task shares' tapes' work' tally' (sym e ∙ passed));
        reply = refl;
        buffer = rw equal;
      })

  -- a message is as long in both runs as the round's count says
  speak_low : (first round : ℕ) (tapes tapes' work work' out : List ℕ)
      → speak_ground s first round tapes work out ≡ speak_ground s' first round tapes' work' out
      → LowResult SameCount (speak_rule s first round tapes work out) (speak_rule s' first round tapes' work' out)
  unfolding speak_rule
  speak_low first round tapes tapes' work work' out e =
      unless_low SameCount _ _ s s' out out _ _ e t refl
      (λ passed.
      let p = (speak_passed s first round tapes work out passed).turn in
      let p' = (speak_passed s' first round tapes' work' out (sym e ∙ passed)).turn in
      record {
        state =
            job_low t (Hear round) s.batch s'.batch t.first t.task (turned_range s first (Speak round) tapes (Hear round) p p.range.in_rounds)
            (turned_range s' first (Speak round) tapes' (Hear round) p' p'.range.in_rounds);
        reply = rw (t.n, t.task);
        buffer = simp (length-take, length-sets, t.n, t.task);
      })

  hear_low : (first round : ℕ) (tapes tapes' work work' incoming incoming' : List ℕ) → length work ≡ length work'
      → hear_ground s first round tapes work incoming ≡ hear_ground s' first round tapes' work' incoming'
      → LowResult SameLength (hear_rule s first round tapes work incoming) (hear_rule s' first round tapes' work' incoming')
  unfolding hear_rule heard_after
  hear_low first round tapes tapes' work work' incoming incoming' room e =
      unless_low SameLength _ _ s s' work work' _ _ e t room
      (λ passed.
      let p = (hear_passed s first round tapes work incoming passed).turn in
      let p' = (hear_passed s' first round tapes' work' incoming' (sym e ∙ passed)).turn in
      choice_low SameLength (eqb round last_round) _ _ _ _
      (record { state = in_phase_lem t Idle no_batch; reply = refl; buffer = lengths })
      (λ before.
      let fits : round_fits (round + 1) ≡ true =
      rw (le-leb 1 (round + 1) (omega arith), le-leb (round + 1) last_round (omega (arith, p.range.last, eqb-false round last_round before))) in
      record {
        state =
            job_low t (Speak (round + 1)) s.batch s'.batch t.first t.task (turned_range s first (Hear round) tapes (Speak (round + 1)) p fits)
            (turned_range s' first (Hear round) tapes' (Speak (round + 1)) p' fits);
        reply = refl;
        buffer = lengths;
      }))
    where
      lengths : length (joined_after s tapes work round incoming) ≡ length (joined_after s' tapes' work' round incoming')
      lengths = joined_after_length s tapes work round incoming ∙ room ∙ sym (joined_after_length s' tapes' work' round incoming')

-- ---- worlds

-- after a cut: asleep, work as long as the list says
cut_low : (g g' : Setting) (place room : ℕ) {m m' : Memory} {tally tally' : List ℕ} → LowMemory m m' → tally ≡ tally'
    → LowMemory (after_cut g place room m tally) (after_cut g' place room m' tally')
cut_low g g' place room t equal =
    record {
      state = in_phase_lem t.state Asleep no_batch;
      tally = equal;
      room = length_tabulate room (g.leftovers place) ∙ sym (length_tabulate room (g'.leftovers place));
    }

-- one box's memory and the log go on alike
pub after_low : {w w' : World} {m m' : Memory} {e e' : Event} (b : Box) → LowEquivalent w w' → LowMemory m m' → LowEvent e e'
    → LowEquivalent (after w b m e) (after w' b m' e')
after_low {w} {w'} {m} {m'} {e} {e'} b k t more =
    record {
      memories = λ c. each b c;
      places = ap length (after_log w b m e) ∙ log_length w.log e ∙ ap suc k.places ∙ sym (ap length (after_log w' b m' e') ∙ log_length w'.log e');
      events = λ i. rw (after_log w b m e, after_log w' b m' e') (events_more w.log w'.log k.places k.events more i);
    }
  where
    each : (own other : Box) → LowMemory (memory_of (after w own m e) other) (memory_of (after w' own m' e') other)
    each box1 box1 = t
    each box1 box2 = k.memories box2
    each box2 box1 = k.memories box1
    each box2 box2 = t

-- a call names the same job in both
pub key_low : {s s' : State} → LowState s s' → (first : ℕ) → key_at s first ≡ key_at s' first
key_low t first = rw (t.n, t.task) refl

-- low-equivalent states have the same job open
open_key_lem : {s s' : State} → LowState s s' → open_key s ≡ open_key s'
open_key_lem {s} {s'} t = ap (key_of s) (mode_same t) ∙ phase_key (mode_of s')
  where
    phase_key : (p : Phase) → key_of s p ≡ key_of s' p
    phase_key Asleep = rw t.n refl
    phase_key Idle = rw t.n refl
    phase_key (Job turn) = rw t.first (key_low t s'.batch.first)

-- a cut says in both runs whether a job was lost
cut_event : (b : Box) {s s' : State} → LowState s s'
    → LowEvent (record { box = b; key = open_key s; round = 0; said = cut_said s; spoken = []; incoming = [] })
    (record { box = b; key = open_key s'; round = 0; said = cut_said s'; spoken = []; incoming = [] })
cut_event b t =
    record {
      box = refl;
      key = open_key_lem t;
      round = refl;
      said = ap (λ (job : Bool). covered (cond job lost nothing)) (job_same t);
      long = refl;
    }

pub step_consistent : (g g' : Setting) (place : ℕ) (w w' : World) (b : Box) (step : Step) → LowEquivalent w w' → SameGround g g' place w w' b step
    → LowEquivalent (stepped g place w b step) (stepped g' place w' b step)
unfolding stepped
step_consistent g g' place w w' b (wake n side pair) k same_ground =
    let t = k.memories b in
    let r = wake_low t.state n side pair (memory_of w b).tally (memory_of w' b).tally t.tally in
    after_low b k
    (record { state = r.state; tally = t.tally; room = t.room })
    (record { box = refl; key = refl; round = refl; said = r.reply; long = refl })
step_consistent g g' place w w' b (start first task lent) k same_ground =
    let t = k.memories b in
    let r =
    start_low t.state first task (g.shares b place) (g'.shares b place) (tape_words g lent) (tape_words g' lent)
    (memory_of w b).work (memory_of w' b).work (memory_of w b).tally (memory_of w' b).tally t.tally same_ground in
    after_low b k
    (record { state = r.state; tally = r.buffer; room = t.room })
    (record { box = refl; key = ap (job_key first task) t.state.n; round = refl; said = r.reply; long = refl })
step_consistent g g' place w w' b (speak first round lent out) k same_ground =
    let t = k.memories b in
    let r =
    speak_low t.state first round (tape_words g lent) (tape_words g' lent) (memory_of w b).work (memory_of w' b).work out same_ground in
    after_low b k
    (record { state = r.state; tally = t.tally; room = t.room })
    (record { box = refl; key = key_low t.state first; round = refl; said = r.reply; long = r.buffer })
step_consistent g g' place w w' b (hear first round lent incoming) k same_ground =
    let t = k.memories b in
    let r =
    hear_low t.state first round (tape_words g lent) (tape_words g' lent) (memory_of w b).work (memory_of w' b).work
    (incoming_words g place (memory_of w b).state w.log incoming) (incoming_words g' place (memory_of w' b).state w'.log incoming)
    t.room same_ground in
    after_low b k
    (record { state = r.state; tally = t.tally; room = r.buffer })
    (record { box = refl; key = key_low t.state first; round = refl; said = r.reply; long = refl })
step_consistent g g' place w w' b drop k same_ground =
    let t = k.memories b in
    let r = drop_low t.state in
    after_low b k
    (record { state = r.state; tally = t.tally; room = t.room })
    (record { box = refl; key = open_key_lem t.state; round = refl; said = r.reply; long = refl })
step_consistent g g' place w w' b (cut room) k same_ground =
    let t = k.memories b in
    after_low b k (cut_low g g' place room t t.tally)
    (cut_event b t.state)
step_consistent g g' place w w' b (cut_start first task lent at mark room) k same_ground =
    let t = k.memories b in
    after_low b k (cut_low g g' place room t (rw (same_ground, t.tally)))
    (cut_event b t.state)
