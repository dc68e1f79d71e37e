-- One box's message comes to the other: it stands at the front of out, and the other box, ready too, takes it in.
use Prim.Native.Nat.{ℕ, ◌≤◌}
use mathlib.Core.Path.{◌≡◌, sym, ap, ap₂, subst, ◌∙◌}
use mathlib.Core.Bool.{true}
use mathlib.Core.List.{List}
use native.Mathlib.Omega.{arith}
use lib.ListN.{length, take}
use lib.Seq.{sets, length-sets}
use Rattle.shares.specs.Reading.{read_words}
use Rattle.protocol.specs.Sizes.{round_for}
use Rattle.rules.specs.Tasks.{count_of}
use Rattle.rules.specs.Batches.{joined_message}
use Rattle.rules.specs.Grounds.{words_fit}
use Rattle.rules.specs.Answers.{Reply}
use Rattle.rules.specs.Calls.{Result, outcome, speak_rule, hear_rule, heard_after}
use Rattle.rules.proofs.Ranges.{ranged}
use Rattle.rules.proofs.Spoken.{joined_length, spoken_front, message_fits_lem}
use Rattle.rules.proofs.AsRead.{heard_as_read}
use Rattle.rules.specs.declared.state.Turn.TheVariants.{Speak, Hear}
use Rattle.rules.specs.declared.state.State.{State}
use Rattle.exchange.specs.Boxes.{Ready}
use Rattle.exchange.proofs.Ready.{turned, speak_ready, hear_ready}

module _ (s : State) (first round : ℕ) (tapes work : List ℕ) (r : Ready s first (Speak round) tapes work) where
  abbrev words : List ℕ
  words = joined_message s tapes work round

  -- what a speak leaves: out, and the state
  pub spoken : (out out' : List ℕ) (reply : Reply) (s' : State) → round_for s.n (count_of s.batch.task) round ≤ length out
      → outcome reply s' out' ≡ speak_rule s first round tapes work out
      → (out' ≡ sets out 0 words) × (s' ≡ turned s (Hear round))
  spoken out out' reply s' room e =
      let all = e ∙ speak_ready s first round tapes work r out room in
      (ap (λ (q : Result). q.buffer) all, ap (λ (q : Result). q.state) all)

  -- the other box, of the same width and count and ready too, hears words that are read as the message
  pub hears : (s' : State) (tapes' work' : List ℕ) → Ready s' first (Speak round) tapes' work' → s.n ≡ s'.n → count_of s.batch.task ≡ count_of s'.batch.task
      → (next : State) (incoming : List ℕ) (reply : Reply) (after' : State) (after : List ℕ) → next ≡ turned s' (Hear round)
      → read_words s'.n incoming ≡ read_words s'.n words → outcome reply after' after ≡ hear_rule next first round tapes' work' incoming
      → outcome reply after' after ≡ heard_after s' tapes' work' round words
  hears s' tapes' work' r' width count next incoming reply after' after due read e =
      let due' = turned s' (Hear round) in
      let long = joined_length s tapes work round ∙ ap₂ (λ (n k : ℕ). round_for n k round) width count in
      let fits = subst (λ (n : ℕ). words_fit n words ≡ true) width (message_fits_lem s tapes work round (ranged s r.ranged).width) in
      e
      ∙ ap (λ (b : State). hear_rule b first round tapes' work' incoming) due
      ∙ sym (heard_as_read due' first round tapes' work' incoming)
      ∙ ap (hear_rule due' first round tapes' work') read
      ∙ heard_as_read due' first round tapes' work' words
      ∙ hear_ready s' first round tapes' work' r' words long fits

-- the message as that many words at the front of out
pub record AtFront (words out : List ℕ) (count : ℕ) : Type 0 where
  pub front : take count out ≡ words
  pub within : count ≤ length out
  pub long : count ≡ length (take count out)

pub at_front : (s : State) (tapes work : List ℕ) (round : ℕ) (out out' : List ℕ) (count : ℕ) → count ≡ round_for s.n (count_of s.batch.task) round
    → round_for s.n (count_of s.batch.task) round ≤ length out → out' ≡ sets out 0 (joined_message s tapes work round)
    → AtFront (joined_message s tapes work round) out' count
at_front s tapes work round out out' count counted room written =
    let words = joined_message s tapes work round in
    let front : take count out' ≡ words = rw (written, counted) (spoken_front s tapes work out round room) in
    record {
      front = front;
      within = omega (arith, ap length written ∙ length-sets out 0 words, counted, room);
      long = counted ∙ sym (ap length front ∙ joined_length s tapes work round);
    }
