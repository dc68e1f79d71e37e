-- A box that is ready for a round: neither its speak nor its hear is refused, and after them it is ready for the next.
use Prim.Native.Nat.{ℕ, ◌+◌, ◌<◌, ◌≤◌}
use mathlib.Core.Path.{◌≡◌, refl, ap, ◌∙◌}
use mathlib.Core.Bool.{true, false}
use mathlib.Core.List.{List}
use native.Mathlib.Omega.{arith}
use borrow.Author.Tests.{eq-eqb, ne_eqb, le-leb}
use lib.ListN.{length}
use lib.Seq.{sets}
use Rattle.lists.proofs.Every.{every_intro}
use Rattle.protocol.specs.Rounds.{last_round}
use Rattle.protocol.specs.Sizes.{tape_for, round_for, work_for}
use Rattle.refusals.specs.Grounds.{earliest_of}
use Rattle.rules.specs.Answers.{Reply, spoke, finished}
use Rattle.rules.specs.Modes.{round_of, round_fits, mode_of, is_asleep, same_turn, in_phase}
use Rattle.rules.specs.Tasks.{count_of}
use Rattle.rules.specs.Batches.{joined_message, joined_after, answer_shares}
use Rattle.rules.specs.Grounds.{words_fit, tape_ordered, message_fits, turn_grounds, speak_ground, hear_ground}
use Rattle.rules.specs.Calls.{Result, outcome, speak_rule, heard_after, hear_rule}
use Rattle.rules.proofs.Ranges.{range_mode, awake_range, job_range, turned_mode}
use Rattle.rules.proofs.Spoken.{joined_after_length}
use Rattle.rules.specs.declared.state.Turn.{Turn}
use Rattle.rules.specs.declared.state.Turn.TheVariants.{Speak, Hear}
use Rattle.rules.specs.declared.state.Phase.TheVariants.{Job}
use Rattle.rules.specs.declared.state.State.{State}
use Rattle.exchange.specs.Boxes.{Ready}

-- ---- a box with a turn due

-- the box with another turn
abbrev pub turned : State → Turn → State
turned s next = in_phase s (Job next) s.batch

module _ {s : State} {first : ℕ} {turn : Turn} {tapes work : List ℕ} (r : Ready s first turn tapes work) where
  ready_awake : is_asleep (mode_of s) ≡ false
  ready_awake = ap is_asleep (range_mode s r.ranged ∙ r.job)

  -- its turn is of one of the rounds
  ready_round : round_fits (round_of turn) ≡ true
  ready_round = (job_range s ready_awake r.job).in_rounds

  -- with another turn it is ready for that one
  ready_turned : (next : Turn) (work' : List ℕ) → round_fits (round_of next) ≡ true → work_for s.n (count_of s.batch.task) ≤ length work'
      → Ready (turned s next) first next tapes work'
  ready_turned next work' fits room =
      record {
        ranged = awake_range (turned s next) (ap is_asleep (turned_mode s next fits r.ranged r.job));
        job = refl;
        first_is = r.first_is;
        long = r.long;
        ordered = r.ordered;
        room = room;
      }

-- ---- the call of that turn is not refused

same_turn_lem : (turn : Turn) → same_turn turn turn ≡ true
same_turn_lem (Speak round) = eq-eqb round round refl
same_turn_lem (Hear round) = eq-eqb round round refl

module _ (s : State) (first : ℕ) (tapes work : List ℕ) where
  -- none of the grounds that a speak and a hear have in common holds
  turn_goes : (turn : Turn) (buffer : List ℕ) → Ready s first turn tapes work → message_fits s.n (count_of s.batch.task) turn (length buffer) ≡ true
      → earliest_of (turn_grounds s first turn tapes work buffer) ≡ 0
  turn_goes turn buffer r fits =
      rw (
        range_mode s r.ranged,
        r.job,
        eq-eqb first s.batch.first r.first_is,
        same_turn_lem turn,
        eq-eqb (length tapes) (tape_for s.n (count_of s.batch.task)) r.long,
        every_intro (count_of s.batch.task) (tape_ordered s s.batch.first tapes) r.ordered,
        le-leb (work_for s.n (count_of s.batch.task)) (length work) r.room,
        fits,
      )

  speak_goes : (round : ℕ) (out : List ℕ) → Ready s first (Speak round) tapes work → round_for s.n (count_of s.batch.task) round ≤ length out
      → speak_ground s first round tapes work out ≡ 0
  unfolding speak_ground
  speak_goes round out r room = turn_goes (Speak round) out r (le-leb (round_for s.n (count_of s.batch.task) round) (length out) room)

  hear_goes : (round : ℕ) (incoming : List ℕ) → Ready s first (Hear round) tapes work → length incoming ≡ round_for s.n (count_of s.batch.task) round
      → words_fit s.n incoming ≡ true → hear_ground s first round tapes work incoming ≡ 0
  unfolding hear_ground
  hear_goes round incoming r long fits =
      rw fits (turn_goes (Hear round) incoming r (eq-eqb (length incoming) (round_for s.n (count_of s.batch.task) round) long))

-- ---- a round of a box that is ready for it

-- the box after it: ready for the next round, the same but for the turn, its work as the rules have it
pub record Next (s : State) (first round : ℕ) (tapes work incoming : List ℕ) (s' : State) (work' : List ℕ) : Type 0 where
  pub ready : Ready s' first (Speak (round + 1)) tapes work'
  pub same : s' ≡ turned s (Speak (round + 1))
  pub after : work' ≡ joined_after s tapes work round incoming

next_fits : (k : ℕ) → k < last_round → round_fits (k + 1) ≡ true
next_fits k less = rw (le-leb 1 (k + 1) (omega arith), le-leb (k + 1) last_round (omega arith))

module _ (s : State) (first round : ℕ) (tapes work : List ℕ) (r : Ready s first (Speak round) tapes work) where
  pub speak_ready : (out : List ℕ) → round_for s.n (count_of s.batch.task) round ≤ length out
      → speak_rule s first round tapes work out
      ≡ record {
        reply = spoke (round_for s.n (count_of s.batch.task) round);
        state = turned s (Hear round);
        buffer = sets out 0 (joined_message s tapes work round);
      }
  unfolding speak_rule
  speak_ready out room = rw (speak_goes s first tapes work round out r room)

  pub hear_ready : (incoming : List ℕ) → length incoming ≡ round_for s.n (count_of s.batch.task) round → words_fit s.n incoming ≡ true
      → hear_rule (turned s (Hear round)) first round tapes work incoming ≡ heard_after s tapes work round incoming
  unfolding hear_rule heard_after joined_after answer_shares
  hear_ready incoming long fits =
      rw (hear_goes (turned s (Hear round)) first tapes work round incoming (ready_turned r (Hear round) work (ready_round r) r.room) long fits)

  module _ (incoming : List ℕ) (reply : Reply) (s' : State) (work' : List ℕ) where
    -- such a hear gave the answer shares, if the round was the last
    pub heard_last : round ≡ last_round → outcome reply s' work' ≡ heard_after s tapes work round incoming
        → reply ≡ finished (answer_shares s tapes work incoming)
    unfolding heard_after
    heard_last last e = ap (λ (q : Result). q.reply) e ∙ rw last

    -- and before the last the box is ready for the next
    pub heard_next : round < last_round → outcome reply s' work' ≡ heard_after s tapes work round incoming
        → Next s first round tapes work incoming s' work'
    unfolding heard_after
    heard_next more e =
        let other = ne_eqb round last_round (λ last. omega (arith, last, more)) in
        let same : s' ≡ turned s (Speak (round + 1)) = ap (λ (q : Result). q.state) e ∙ rw other in
        let after : work' ≡ joined_after s tapes work round incoming = ap (λ (q : Result). q.buffer) e ∙ rw other in
        let room : work_for s.n (count_of s.batch.task) ≤ length work' =
        omega (arith, ap length after, joined_after_length s tapes work round incoming, r.room) in
        record {
          ready = rw same (ready_turned r (Speak (round + 1)) work' (next_fits round more) room);
          same = same;
          after = after;
        }
