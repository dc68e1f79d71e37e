-- One job's part of a joined speak or hear, and what a turn of the loop over the jobs makes of out, of work and of the answers.
use Prim.Native.Nat.{ℕ, ◌+◌, ◌-◌, ◌*◌, ◌<◌, ◌≤◌}
use mathlib.Core.Path.{◌≡◌, refl, sym, ap, ap₂, ◌∙◌}
use mathlib.Core.Bool.{Bool, true, false, cond}
use mathlib.Core.List.{List}
use mathlib.Core.Logic.{by_cases}
use native.Mathlib.Nat.{le_of_eq}
use native.Mathlib.Numerals.{add-one}
use native.Mathlib.Decide.{dec_lt}
use native.Mathlib.Omega.{arith}
use borrow.Author.Tests.{eq-eqb, lt-ltb, le-ltb, eqb-true, eqb-false}
use borrow.Rule.Slice.PartMut.{put_mid}
use lib.Dec.{eqb, ltb}
use lib.ListN.{length, get_or, get_or-eq_default, set, take, drop, length-set}
use lib.Seq.{sets, length-sets, get_or-set_same, get_or-set_other}
use Rattle.std.specs.Prelude.{Some, None}
use Rattle.std.specs.Option.{unwrap_or}
use Rattle.lists.specs.Joined.{chained, part}
use Rattle.lists.proofs.Joined.{within, length_part, sets_chained, part_unset, get_part}
use Rattle.lists.proofs.Parts.{put_whole}
use Rattle.lists.proofs.Sets.{sets_whole}
use Rattle.lists.proofs.Tabulate.{length_tabulate, get_d_tabulate, tabulated}
use Rattle.field.specs.Width.{listed, modulus}
use Rattle.field.proofs.Widths.{bounds}
use Rattle.protocol.specs.Words.{FromLine}
use Rattle.protocol.specs.Work.{work_length}
use Rattle.protocol.specs.Products.{Party}
use Rattle.protocol.specs.Rounds.{last_round, round_words, message, after_hearing, share_after}
use Rattle.protocol.specs.Sizes.{most_jobs, round_for, work_for}
use Rattle.protocol.proofs.Lengths.{message_length, after_length}
use Rattle.protocol.proofs.Below.{answer_below}
use Rattle.rules.specs.Tasks.{count_of}
use Rattle.rules.specs.Answers.{heard_or_finished}
use Rattle.rules.specs.Batches.{no_batch, each_job, party_of, work_part, words_part, joined_after, answers_given, answer_shares}
use Rattle.rules.specs.Modes.{in_phase}
use Rattle.rules.specs.Grounds.{words_fit, hear_ground}
use Rattle.rules.specs.Calls.{outcome, heard_after, hear_rule}
use Rattle.rules.specs.declared.state.Turn.TheVariants.{Speak}
use Rattle.rules.specs.declared.state.Phase.TheVariants.{Idle, Job}
use Rattle.rules.proofs.Batches.{each_below}
use Rattle.rules.proofs.Passed.{words_most}
use Rattle.rules.specs.declared.state.State.{State}

-- ---- parts that are lent

-- from a place up to a size behind it are so many words
size_is : (at size : ℕ) → at + size - at ≡ size
size_is at size = omega arith

pub lent_part : (size : ℕ) (l : List ℕ) (i : ℕ) → take (i * size + size - i * size) (drop (i * size) l) ≡ part size l i
lent_part size l i = ap (λ (k : ℕ). take k (drop (i * size) l)) (size_is (i * size) size)

-- a part that comes back written whole
pub put_part : (size : ℕ) (l new : List ℕ) (i : ℕ) → i * size + size ≤ length l → length new ≡ size
    → put_mid (i * size) (i * size + size - i * size) l new ≡ sets l (i * size) new
put_part size l new i room long =
    let k = i * size + size - i * size in
    put_whole (i * size) k l new (long ∙ sym (ap length (lent_part size l i) ∙ length_part size l i room)) (omega (arith, size_is (i * size) size, long))

-- ---- one job

module _ (s : State) (tapes work : List ℕ) (round : ℕ) where
  abbrev pub message_at : ℕ → List ℕ
  message_at i = message (party_of s tapes i) (work_part s.n work i) round

  -- what it writes into its part of out, the sizes as they were counted
  pub speak_part : (words room : ℕ) (q : Party) (l : List ℕ) (k : ℕ) → words ≡ round_words s.n round → room ≡ work_length s.n → q ≡ party_of s tapes k
      → k * round_words s.n round + round_words s.n round ≤ length l
      → sets (take (k * words + words - k * words) (drop (k * words) l)) 0 (message q (take (k * room + room - k * room) (drop (k * room) work)) round) ≡ message_at k
  speak_part words room q l k ew er eq fits =
      let size = round_words s.n round in
      rw (ew, er, eq, lent_part size l k, lent_part (work_length s.n) work k)
      (sets_whole (part size l k) (message_at k) (message_length (party_of s tapes k) (work_part s.n work k) round ∙ sym (length_part size l k fits)))

  -- a turn of speak's loop
  pub speak_turn : (out l new : List ℕ) (k : ℕ) → k < count_of s.batch.task → round_for s.n (count_of s.batch.task) round ≤ length out
      → l ≡ sets out 0 (chained k message_at)
      → new ≡ message_at k
      → put_mid (k * round_words s.n round) (k * round_words s.n round + round_words s.n round - k * round_words s.n round) l new
      ≡ sets out 0 (chained (k + 1) message_at)
  speak_turn out l new k less room before this =
      let size = round_words s.n round in
      let long : (i : ℕ) → i < k → length (message_at i) ≡ size = λ i _. message_length (party_of s tapes i) (work_part s.n work i) round in
      let same : length l ≡ length out = ap length before ∙ length-sets out 0 (chained k message_at) in
      put_part size l new k (omega (arith, within (count_of s.batch.task) size k less, room, same)) (ap length this ∙ message_length (party_of s tapes k) (work_part s.n work k) round)
      ∙ ap₂ (λ (m w : List ℕ). sets m (k * size) w) before this
      ∙ sets_chained out k size message_at long
      ∙ ap (λ (m : ℕ). sets out 0 (chained m message_at)) (sym (add-one k))

  module _ (incoming : List ℕ) where
    -- what it keeps, and what it answers, 0 before the last round
    abbrev pub after_at : ℕ → List ℕ
    after_at i = after_hearing (party_of s tapes i) (work_part s.n work i) round (words_part s.n round incoming i)

    abbrev pub told_at : ℕ → ℕ
    told_at i = unwrap_or (share_after (party_of s tapes i) (work_part s.n work i) round (words_part s.n round incoming i)) 0

    part_long : (k : ℕ) → k < count_of s.batch.task → work_for s.n (count_of s.batch.task) ≤ length work → length (work_part s.n work k) ≡ work_length s.n
    part_long k less room = length_part (work_length s.n) work k (omega (arith, within (count_of s.batch.task) (work_length s.n) k less, room))

    kept_long : (k : ℕ) → k < count_of s.batch.task → work_for s.n (count_of s.batch.task) ≤ length work → length (after_at k) ≡ work_length s.n
    kept_long k less room =
        after_length (party_of s tapes k) (work_part s.n work k) (words_part s.n round incoming k) round ∙ part_long k less room

    -- no turn before has touched the next job's part of work
    pub untouched : (l : List ℕ) (k : ℕ) → k < count_of s.batch.task → work_for s.n (count_of s.batch.task) ≤ length work → l ≡ sets work 0 (chained k after_at)
        → work_part s.n l k ≡ work_part s.n work k
    untouched l k less room before =
        ap (λ (m : List ℕ). work_part s.n m k) before
        ∙ part_unset work k (work_length s.n) after_at k (omega arith) (λ i below. kept_long i (omega (arith, below, less)) room)

    -- a turn of hear's loop, at work
    pub hear_turn : (l new : List ℕ) (k : ℕ) → k < count_of s.batch.task → work_for s.n (count_of s.batch.task) ≤ length work → l ≡ sets work 0 (chained k after_at)
        → new ≡ after_hearing (party_of s tapes k) (work_part s.n l k) round (words_part s.n round incoming k)
        → put_mid (k * work_length s.n) (k * work_length s.n + work_length s.n - k * work_length s.n) l new ≡ sets work 0 (chained (k + 1) after_at)
    hear_turn l new k less room before this =
        let size = work_length s.n in
        let fits = within (count_of s.batch.task) size k less in
        let same : length l ≡ length work = ap length before ∙ length-sets work 0 (chained k after_at) in
        let own : new ≡ after_at k =
        this
        ∙ ap (λ (kept : List ℕ). after_hearing (party_of s tapes k) kept round (words_part s.n round incoming k)) (untouched l k less room before) in
        put_part size l new k (omega (arith, fits, room, same)) (ap length own ∙ kept_long k less room)
        ∙ ap₂ (λ (m kept : List ℕ). sets m (k * size) kept) before own
        ∙ sets_chained work k size after_at (λ i below. kept_long i (omega (arith, below, less)) room)
        ∙ ap (λ (m : ℕ). sets work 0 (chained m after_at)) (sym (add-one k))

    -- a part of words that can be read
    pub part_from_line : (k : ℕ) → k < count_of s.batch.task → length incoming ≡ round_for s.n (count_of s.batch.task) round → words_fit s.n incoming ≡ true
        → FromLine s.n (round_words s.n round) (words_part s.n round incoming k)
    part_from_line k less long fits =
        let size = round_words s.n round in
        let room = length_part size incoming k (omega (arith, within (count_of s.batch.task) size k less, long)) in
        record {
          most =
              λ j.
              by_cases (dec_lt j size)
              (λ inside. rw (get_part size incoming k j inside) (words_most s.n incoming fits (k * size + j)))
              (λ outside. rw (get_or-eq_default (words_part s.n round incoming k) 0 {n = j} (omega (arith, outside, room))) (omega arith));
          long = le_of_eq (sym room);
        }

-- ---- the answers

-- one job more
pub each_more : (k : ℕ) (f : ℕ → ℕ) → k < most_jobs → set (each_job k f) k (f k) ≡ each_job (k + 1) f
each_more k f inside =
    tabulated (set (each_job k f) k (f k)) most_jobs (λ i. cond (ltb i (k + 1)) (f i) 0)
    (length-set (each_job k f) k (f k) ∙ length_tabulate most_jobs (λ i. cond (ltb i k) (f i) 0))
    (λ i less. go i less (eqb i k) refl)
  where
    -- another job's word is as it was
    kept : (i : ℕ) → (i ≡ k → ⊥) → cond (ltb i k) (f i) 0 ≡ cond (ltb i (k + 1)) (f i) 0
    kept i other =
        by_cases (dec_lt i k)
        (λ below. rw (lt-ltb i k below, lt-ltb i (k + 1) (omega arith)) refl)
        (λ above. rw (le-ltb i k (omega arith), le-ltb i (k + 1) (omega (arith, above, other))) refl)

    go : (i : ℕ) → i < most_jobs → (t : Bool) → eqb i k ≡ t → get_or (set (each_job k f) k (f k)) i 0 ≡ cond (ltb i (k + 1)) (f i) 0
    go i less true same =
        rw (eqb-true i k same)
        (get_or-set_same (each_job k f) k (f k) 0 (omega (arith, length_tabulate most_jobs (λ i. cond (ltb i k) (f i) 0)))
        ∙ rw (lt-ltb k (k + 1) (omega arith)) refl)
    go i less false other =
        get_or-set_other (each_job k f) k i (f k) 0 (eqb-false i k other)
        ∙ get_d_tabulate most_jobs (λ j. cond (ltb j k) (f j) 0) i 0 less
        ∙ kept i (eqb-false i k other)

-- after the last round these are the answer shares
pub last_told : (s : State) (tapes work : List ℕ) (round : ℕ) (incoming : List ℕ) → round ≡ last_round
    → answers_given s.n s.side s.batch.task (each_job (count_of s.batch.task) (told_at s tapes work round incoming)) ≡ answer_shares s tapes work incoming
unfolding share_after answer_shares
last_told s tapes work round incoming last = rw last refl

-- then each is below p
pub told_below : (s : State) (tapes work : List ℕ) (round : ℕ) (incoming : List ℕ) → listed s.n ≡ true → round ≡ last_round
    → (i : ℕ) → get_or (each_job (count_of s.batch.task) (told_at s tapes work round incoming)) i 0 < modulus s.n
unfolding share_after
told_below s tapes work round incoming width last i =
    each_below (count_of s.batch.task) (told_at s tapes work round incoming) (omega (arith, (bounds width).seven))
    (λ k. rw (eq-eqb round last_round last) (answer_below (party_of s tapes k) width (work_part s.n work k) (words_part s.n round incoming k))) i

-- ---- the outcome of a hear that goes on, by whether its round is the last

pub hear_outcome : (s : State) (first round : ℕ) (tapes work incoming : List ℕ) (last : Bool) → hear_ground s first round tapes work incoming ≡ 0
    → eqb round last_round ≡ last
    → outcome (heard_or_finished (cond last (Some (answer_shares s tapes work incoming)) None))
    (cond last (in_phase s Idle no_batch) (in_phase s (Job (Speak (round + 1))) s.batch)) (joined_after s tapes work round incoming)
    ≡ hear_rule s first round tapes work incoming
unfolding hear_rule heard_after
hear_outcome s first round tapes work incoming true goes is = rw (goes, is) refl
hear_outcome s first round tapes work incoming false goes is = rw (goes, is) refl
