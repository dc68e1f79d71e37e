-- A box that came to a job and was not refused: its state, and that it is ready for the first round.
use Prim.Native.Nat.{ℕ, ◌<◌, ◌≤◌}
use mathlib.Core.Path.{◌≡◌, refl, ap, ap₂, ◌∙◌, sym}
use mathlib.Core.Bool.{Bool, true, false, cond}
use mathlib.Core.List.{List, [], ◌∷◌}
use native.Mathlib.Omega.{arith}
use borrow.Author.Tests.{ne_eqb, eqb-true}
use lib.Dec.{eqb}
use lib.ListN.{length, get_or}
use Rattle.lists.proofs.Joined.{within, length_part}
use Rattle.field.specs.Width.{modulus}
use Rattle.protocol.specs.Work.{work_length}
use Rattle.protocol.specs.Products.{party}
use Rattle.protocol.specs.Sizes.{count_fits, work_for}
use Rattle.refusals.specs.Numbers.{number_of}
use Rattle.refusals.proofs.Numbers.{numbered}
use Rattle.refusals.specs.declared.Refusal.{Refusal}
use Rattle.rules.specs.Answers.{Reply, fresh, refused}
use Rattle.rules.specs.Tasks.{count_of, pairs_of}
use Rattle.rules.specs.Moves.{Asked}
use Rattle.rules.specs.Batches.{no_batch, batch_of, x_in, y_in, tape_part, work_part, party_of}
use Rattle.rules.specs.Grounds.{wake_ground, start_ground}
use Rattle.rules.specs.Modes.{is_asleep}
use Rattle.rules.specs.Calls.{Result, outcome, unless, wake_rule, start_rule}
use Rattle.rules.proofs.Decide.{decide}
use Rattle.rules.proofs.Batches.{each_at}
use Rattle.rules.proofs.Ranges.{awake_range}
use Rattle.rules.proofs.Passed.{start_passed}
use Rattle.rules.proofs.Moves.{started_job}
use Rattle.rules.specs.declared.state.Turn.TheVariants.{Speak}
use Rattle.rules.specs.declared.state.Phase.{Phase}
use Rattle.rules.specs.declared.state.Phase.TheVariants.{Idle, Job}
use Rattle.rules.specs.declared.state.Batch.{Batch}
use Rattle.rules.specs.declared.state.Task.{Task}
use Rattle.rules.specs.declared.state.Task.TheVariants.{Band}
use Rattle.rules.specs.declared.state.State.{State}
use Rattle.exchange.specs.Opening.{first_state, refusal_of, begun}
use Rattle.exchange.specs.Boxes.{Ready}

-- a rule that gives no refusal has no ground for one
not_refused : (k : ℕ) (s : State) (buffer : List ℕ) (ok : Result) → refusal_of (unless k s buffer ok).reply ≡ 0 → k ≡ 0
not_refused k s buffer ok = decide (λ r. refusal_of r.reply ≡ 0 → k ≡ 0) k s buffer ok (λ zero e. zero) (λ e. e)

-- nor has the first of two, where the second is taken only if the first was not refused
first_goes : (r later : Result) → refusal_of (cond (eqb (refusal_of r.reply) 0) later r).reply ≡ 0 → refusal_of r.reply ≡ 0
first_goes r later = go (eqb (refusal_of r.reply) 0) refl
  where
    go : (t : Bool) → eqb (refusal_of r.reply) 0 ≡ t → refusal_of (cond t later r).reply ≡ 0 → refusal_of r.reply ≡ 0
    go true zero e = eqb-true (refusal_of r.reply) 0 zero
    go false some e = e

-- a box awake, in that phase and with that batch
abbrev pub awake : ℕ → ℕ → ℕ → List ℕ → Phase → Batch → State
awake n side pair tally phase batch = record { n = n; side = side; pair = pair; tally = length tally; phase = phase; batch = batch }

-- the state that such a box came to
pub record Begun (n side pair first : ℕ) (task : Task) (shares tapes work tally : List ℕ) (s : State) : Type 0 where
  pub state : s ≡ awake n side pair tally (Job (Speak 1)) (batch_of first task (pairs_of side task shares))
  pub ready : Ready s first (Speak 1) tapes work
  pub asked : Asked n task shares
  pub counted : count_fits (count_of task) ≡ true
  pub y_fits : (i : ℕ) → i < count_of task → y_in (pairs_of side task shares) i < modulus n

module _ {n side pair first : ℕ} {task : Task} {shares tapes work tally : List ℕ} {s : State} (b : Begun n side pair first task shares tapes work tally s) where
  -- the shares of each comparison
  abbrev pairs : List ℕ
  pairs = pairs_of side task shares

  -- in each comparison the box has the shares and the tape that it was lent for it
  pub begun_party : (i : ℕ) → i < count_of task → party_of s tapes i ≡ party n side (x_in pairs i) (y_in pairs i) (tape_part n tapes i)
  begun_party i less =
      ap (λ (s : State). party_of s tapes i) b.state
      ∙ ap₂ (λ (x y : ℕ). party n side x y (tape_part n tapes i))
      (each_at (count_of task) (x_in pairs) i b.counted less)
      (each_at (count_of task) (y_in pairs) i b.counted less)

  -- and room to work
  pub begun_room : (i : ℕ) → i < count_of task → work_length n ≤ length (work_part n work i)
  begun_room i less =
      let room : work_for n (count_of task) ≤ length work = rw b.state at b.ready.room in
      omega (arith, length_part (work_length n) work i (omega (arith, room, within (count_of task) (work_length n) i less)))

module _ (n side pair first : ℕ) (task : Task) (shares tapes work tally : List ℕ) where
  abbrev begins : Result
  begins = begun first_state n side pair first task shares tapes work tally

  abbrev idle : State
  idle = awake n side pair tally Idle no_batch

  -- not refused, it woke
  woke : refusal_of begins.reply ≡ 0 → wake_ground first_state n side tally ≡ 0
  unfolding begun wake_rule
  woke e = not_refused (wake_ground first_state n side tally) _ _ _ (first_goes (wake_rule first_state n side pair tally) _ e)

  -- and then started
  begun_start : wake_ground first_state n side tally ≡ 0 → begins ≡ start_rule idle first task shares tapes work tally
  unfolding begun wake_rule
  begun_start zero = rw zero

  start_goes : refusal_of begins.reply ≡ 0 → start_ground idle first task shares tapes work tally ≡ 0
  unfolding start_rule
  start_goes e = not_refused (start_ground idle first task shares tapes work tally) _ _ _ (rw (begun_start (woke e)) at e)

  -- the state that the start leaves
  abbrev opened : State
  opened = awake n side pair tally (Job (Speak 1)) (batch_of first task (pairs_of side task shares))

  opens : start_ground idle first task shares tapes work tally ≡ 0 → Begun n side pair first task shares tapes work tally opened
  unfolding start_rule
  opens goes =
      let p = start_passed idle first task shares tapes work tally goes in
      let job = started_job idle first task shares tapes work tally goes in
      record {
        state = refl;
        ready =
            record {
              ranged = awake_range opened (ap is_asleep (rw goes at job));
              job = refl;
              first_is = refl;
              long = p.long;
              ordered = p.ordered;
              room = p.room;
            };
        asked = p.asked;
        counted = p.counted;
        y_fits = p.y_fits;
      }

  pub begun_ready : refusal_of begins.reply ≡ 0 → Begun n side pair first task shares tapes work tally begins.state
  unfolding start_rule
  begun_ready e =
      let goes = start_goes e in
      let state : begins.state ≡ opened = ap (λ (r : Result). r.state) (begun_start (woke e)) ∙ rw goes in
      rw state (opens goes)

  -- of what `begin` gave back
  pub begin_ready : (reply : Reply) (s : State) (tally' : List ℕ) → outcome reply s tally' ≡ begins → refusal_of reply ≡ 0
      → Begun n side pair first task shares tapes work tally s
  begin_ready reply s tally' e zero =
      rw (ap (λ (r : Result). r.state) e) (begun_ready (sym (ap (λ (r : Result). refusal_of r.reply) e) ∙ zero))

-- ---- a box that comes to a job from any state

module _ (s : State) (n side pair first : ℕ) (task : Task) (shares tapes work tally : List ℕ) where
  pub begun_refused : (refusal : Refusal) (s' : State) → outcome (refused (number_of refusal)) s' tally ≡ wake_rule s n side pair tally
      → outcome (refused (number_of refusal)) s' tally ≡ begun s n side pair first task shares tapes work tally
  unfolding begun
  begun_refused refusal s' told =
      rw (← told, ne_eqb (number_of refusal) 0 (λ zero. omega (arith, zero, numbered refusal))) refl

  pub begun_woken : (found : ℕ) (s' : State) → outcome (fresh found) s' tally ≡ wake_rule s n side pair tally
      → begun s n side pair first task shares tapes work tally ≡ start_rule s' first task shares tapes work tally
  unfolding begun
  begun_woken found s' told = rw (← told) refl

-- ---- of a band's list the start reads the first word

pub first_word : (s : State) (first low high : ℕ) (shares tapes work tally : List ℕ)
    → start_rule s first (Band low high) (get_or shares 0 0 ∷ []) tapes work tally ≡ start_rule s first (Band low high) shares tapes work tally
unfolding start_rule start_ground
first_word s first low high shares tapes work tally = refl
