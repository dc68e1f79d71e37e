-- One box on its way through the rounds: it is ready for the next, it is the box that it was, and each comparison's work is the exchange's.
use Prim.Native.Nat.{ℕ, ◌+◌, ◌<◌, ◌≤◌}
use mathlib.Core.Path.{◌≡◌, refl, sym, ap, ap₂, ◌∙◌}
use mathlib.Core.List.{List}
use native.Mathlib.Nat.{mul-le-mul_left}
use native.Mathlib.Omega.{arith}
use lib.ListN.{length}
use Rattle.lists.specs.Joined.{chained}
use Rattle.lists.proofs.Joined.{chained_same, part_chained}
use Rattle.protocol.specs.Rounds.{earlier_rounds, last_round, round_words, message, after_hearing, answer_share}
use Rattle.protocol.specs.Sizes.{round_for}
use Rattle.protocol.proofs.Lengths.{most_words, message_length}
use Rattle.rules.specs.Answers.{Reply, finished}
use Rattle.rules.specs.Modes.{in_phase}
use Rattle.rules.specs.Tasks.{count_of}
use Rattle.rules.specs.Batches.{each_job, work_part, words_part, party_of, joined_message, joined_after, answers_given, answer_shares}
use Rattle.rules.specs.Calls.{outcome, heard_after}
use Rattle.rules.proofs.Batches.{each_same}
use Rattle.rules.proofs.Ranges.{ranged}
use Rattle.rules.proofs.Spoken.{after_part}
use Rattle.rules.specs.declared.state.Turn.TheVariants.{Speak}
use Rattle.rules.specs.declared.state.Phase.{Phase}
use Rattle.rules.specs.declared.state.State.{State}
use Rattle.exchange.specs.Boxes.{Ready}
use Rattle.exchange.proofs.Ready.{turned, heard_next, heard_last}

-- `begun` is the box before the first round, `held` each comparison's work by the exchange after `k` rounds
pub record Course (begun : State) (first : ℕ) (tapes : List ℕ) (k : ℕ) (held : ℕ → List ℕ) (s : State) (work : List ℕ) : Type 0 where
  pub due : Ready s first (Speak (k + 1)) tapes work
  pub same : s ≡ turned begun (Speak (k + 1))
  pub so_far : (i : ℕ) → i < count_of begun.batch.task → work_part begun.n work i ≡ held i

pub course_first : (s : State) (first : ℕ) (tapes work : List ℕ) → Ready s first (Speak 1) tapes work
    → Course s first tapes 0 (work_part s.n work) s work
course_first s first tapes work r =
    record { due = r; same = ap (λ (p : Phase). in_phase s p s.batch) r.job; so_far = λ i less. refl }

module _ {begun : State} {first : ℕ} {tapes : List ℕ} {k : ℕ} {held : ℕ → List ℕ} {s : State} {work : List ℕ}
    (c : Course begun first tapes k held s work) where
  pub course_width : s.n ≡ begun.n
  course_width = ap (λ (b : State). b.n) c.same

  pub course_count : count_of s.batch.task ≡ count_of begun.batch.task
  course_count = ap (λ (b : State). count_of b.batch.task) c.same

  -- out has room for any round
  pub course_room : (round : ℕ) (out : List ℕ) → round_for begun.n (count_of begun.batch.task) 1 ≤ length out
      → round_for s.n (count_of s.batch.task) round ≤ length out
  course_room round out room =
      let most = mul-le-mul_left (count_of s.batch.task) (most_words s.n round (ranged s c.due.ranged).width) in
      let same = ap₂ (λ (n count : ℕ). round_for n count 1) course_width course_count in
      omega (arith, room, most, same)

  -- what it sends is what the exchange says
  pub course_sends : (round : ℕ) → joined_message s tapes work round
      ≡ chained (count_of begun.batch.task) (λ i. message (party_of begun tapes i) (held i) round)
  unfolding joined_message
  course_sends round =
      rw c.same
      (chained_same (count_of begun.batch.task) _ _ (λ i less. ap (λ (w : List ℕ). message (party_of begun tapes i) w round) (c.so_far i less)))

  -- so a box of the same width and count is told, comparison by comparison
  pub course_tells : (n count : ℕ) → n ≡ begun.n → count ≡ count_of begun.batch.task → (round i : ℕ) → i < count
      → words_part n round (joined_message s tapes work round) i ≡ message (party_of begun tapes i) (held i) round
  course_tells n count width same round i less =
      rw (width, course_sends round)
      (part_chained (count_of begun.batch.task) (round_words begun.n round) _ i (omega (arith, same, less))
      (λ j l. message_length (party_of begun tapes j) (held j) round))

  -- it hears words that have so much for each comparison
  module _ (incoming : List ℕ) (sent : ℕ → List ℕ) (told : (i : ℕ) → i < count_of begun.batch.task → words_part begun.n (k + 1) incoming i ≡ sent i)
      (reply : Reply) (s' : State) (work' : List ℕ) where
    -- one round more
    pub course_next : k < earlier_rounds → outcome reply s' work' ≡ heard_after s tapes work (k + 1) incoming → (held' : ℕ → List ℕ)
        → ((i : ℕ) → held' i ≡ after_hearing (party_of begun tapes i) (held i) (k + 1) (sent i))
        → Course begun first tapes (k + 1) held' s' work'
    course_next more e held' next =
        let box = turned begun (Speak (k + 1)) in
        let n = heard_next s first (k + 1) tapes work c.due incoming reply s' work' (omega (arith, more)) e in
        let after : work' ≡ joined_after box tapes work (k + 1) incoming =
        n.after ∙ ap (λ (b : State). joined_after b tapes work (k + 1) incoming) c.same in
        record {
          due = n.ready;
          same = n.same ∙ ap (λ (b : State). turned b (Speak (k + 1 + 1))) c.same;
          so_far = λ i less.
              ap (λ (w : List ℕ). work_part begun.n w i) after
              ∙ after_part box tapes work (k + 1) incoming i less (rw c.same at c.due.room)
              ∙ ap₂ (λ (w v : List ℕ). after_hearing (party_of begun tapes i) w (k + 1) v) (c.so_far i less) (told i less)
              ∙ sym (next i);
        }

    -- the last one
    pub course_last : k ≡ earlier_rounds → outcome reply s' work' ≡ heard_after s tapes work (k + 1) incoming
        → reply
        ≡ finished
        (answers_given begun.n begun.side begun.batch.task
        (each_job (count_of begun.batch.task) (λ i. answer_share (party_of begun tapes i) (held i) (sent i))))
    unfolding answer_shares
    course_last all e =
        let last : k + 1 ≡ last_round = omega (arith, all) in
        heard_last s first (k + 1) tapes work c.due incoming reply s' work' last e
        ∙ rw c.same
        (ap (λ (vs : List ℕ). finished (answers_given begun.n begun.side begun.batch.task vs))
        (each_same (count_of begun.batch.task) _ _
        (λ i less.
        ap₂ (λ (w v : List ℕ). answer_share (party_of begun tapes i) w v) (c.so_far i less)
        (ap (λ (r : ℕ). words_part begun.n r incoming i) (sym last) ∙ told i less))))
