-- What the calls of a start's jobs give each one of them: its part of work, its words, its answer share, as the rounds have them for that job alone.
use Prim.Native.Nat.{ℕ, zero, suc, ◌<◌, ◌≤◌}
use mathlib.Core.Path.{◌≡◌, refl, ap, ap₂, ◌∙◌}
use mathlib.Core.Bool.{true}
use mathlib.Core.List.{List}
use native.Mathlib.Omega.{arith}
use lib.ListN.{length, get_or}
use Rattle.lists.specs.Joined.{chained}
use Rattle.lists.proofs.Joined.{chained_same}
use Rattle.field.specs.Width.{listed}
use Rattle.protocol.specs.Work.{work_length}
use Rattle.protocol.specs.Products.{Party, party}
use Rattle.protocol.specs.Rounds.{earlier_rounds, last_round, message, after_hearing, answer_share}
use Rattle.protocol.specs.Sizes.{count_fits}
use Rattle.protocol.proofs.Lengths.{after_length}
use Rattle.protocol.proofs.Live.{Live, after_live}
use Rattle.rules.specs.Tasks.{count_of, pairs_of, answer_count}
use Rattle.rules.specs.Batches.{x_in, y_in, tape_part, work_part, words_part, party_of, joined_message, answer_shares}
use Rattle.rules.specs.OneByOne.{Left, Lent, words_spoken, shares_in, answers, answer_from}
use Rattle.rules.specs.declared.state.Turn.{Turn}
use Rattle.rules.specs.declared.state.Turn.TheVariants.{Speak, Hear}
use Rattle.rules.specs.declared.state.Phase.TheVariants.{Job}
use Rattle.rules.proofs.Batches.{started_party, answer_at, answer_past, from_same}
use Rattle.rules.proofs.Spoken.{spoken_front, after_part}
use Rattle.rules.proofs.Runs.{in_jobs, work_after, Clear, run_is, spoken_is, reply_is}
use Rattle.rules.proofs.Fits.{clear_fits, begun, work_room}

-- ---- one job's work

-- a job's work after so many rounds, from what it held at first and the words that were heard
unfoldable pub kept : Party → List ℕ → (ℕ → List ℕ) → ℕ → List ℕ
kept q work heard zero = work
kept q work heard (suc r) = after_hearing q (kept q work heard r) (suc r) (heard (suc r))

kept_length : (q : Party) (work : List ℕ) (heard : ℕ → List ℕ) (r : ℕ) → length (kept q work heard r) ≡ length work
unfolding kept
kept_length q work heard zero = refl
kept_length q work heard (suc r) = after_length q (kept q work heard r) (heard (suc r)) (suc r) ∙ kept_length q work heard r

-- it is the same where the same was heard
pub kept_heard : (q : Party) (work : List ℕ) (heard heard' : ℕ → List ℕ) (r : ℕ) → ((k : ℕ) → k < r → heard (suc k) ≡ heard' (suc k))
    → kept q work heard r ≡ kept q work heard' r
unfolding kept
kept_heard q work heard heard' zero same = refl
kept_heard q work heard heard' (suc r) same = rw (kept_heard q work heard heard' r (λ k less. same k (omega arith)), same r (omega arith)) refl

-- whatever it held at first, it is the same in all that is read later
pub kept_live : (q : Party) (work work' : List ℕ) (heard : ℕ → List ℕ) → listed q.n ≡ true
    → work_length q.n ≤ length work → work_length q.n ≤ length work' → (r : ℕ) → Live q.n r (kept q work heard r) (kept q work' heard r)
unfolding kept
kept_live q work work' heard width room room' zero = tt
kept_live q work work' heard width room room' (suc r) =
    after_live q width (kept q work heard r) (kept q work' heard r) (heard (suc r)) (rw (kept_length q work heard r) room)
    (rw (kept_length q work' heard r) room') r (kept_live q work work' heard width room room' r)

-- ---- job i among those of a start

module _ (l : Left) (j : Lent) where
  -- the box in it
  abbrev pub party_in : ℕ → Party
  party_in i =
      let pairs = pairs_of l.state.side j.task j.shares in
      party l.state.n l.state.side (x_in pairs i) (y_in pairs i) (tape_part l.state.n j.tapes i)

  -- the words that it hears
  abbrev pub heard_in : ℕ → ℕ → List ℕ
  heard_in i round = words_part l.state.n round (j.incoming round) i

  -- its work after so many rounds
  abbrev pub kept_in : ℕ → ℕ → List ℕ
  kept_in i r = kept (party_in i) (work_part l.state.n l.work i) (heard_in i) r

  module _ (c : Clear l j) where
    counted : count_fits (count_of j.task) ≡ true
    counted = (begun l j c.start).counted

    same_party : (turn : Turn) (i : ℕ) → i < count_of j.task → party_of (in_jobs l j turn) j.tapes i ≡ party_in i
    same_party turn i less = started_party j.first j.task (pairs_of l.state.side j.task j.shares) i counted less l.state (Job turn) j.tapes

    work_is : (r i : ℕ) → i < count_of j.task → work_part l.state.n (work_after l j r) i ≡ kept_in i r
    unfolding work_after kept
    work_is zero i less = refl
    work_is (suc r) i less =
        let due = in_jobs l j (Hear (suc r)) in
        after_part due j.tapes (work_after l j r) (suc r) (j.incoming (suc r)) i less (work_room l j c.start r)
        ∙ rw (same_party (Hear (suc r)) i less, work_is r i less) refl

    pub words_is : (r : ℕ) → r < last_round → words_spoken l j r ≡ chained (count_of j.task) (λ i. message (party_in i) (kept_in i r) (suc r))
    unfolding joined_message
    words_is r less =
        let due = in_jobs l j (Speak (suc r)) in
        rw (run_is l j c r less, spoken_is l j r (c.speak r less))
        (spoken_front due j.tapes (work_after l j r) (j.out (suc r)) (suc r) ((clear_fits l j c).roomy r less)
        ∙ chained_same (count_of j.task) _ _
        (λ i within. ap₂ (λ (q : Party) (work : List ℕ). message q work (suc r)) (same_party (Speak (suc r)) i within) (work_is r i within)))

    answers_is : answers l j ≡ answer_shares (in_jobs l j (Hear last_round)) j.tapes (work_after l j earlier_rounds) (j.incoming last_round)
    answers_is = ap shares_in (reply_is l j c)

    -- what it answers in each of them
    abbrev pub share_of : ℕ → ℕ
    share_of i = answer_share (party_in i) (kept_in i earlier_rounds) (heard_in i last_round)

    pub answer_is : (i : ℕ) → i < answer_count j.task → get_or (answers l j) i 0 ≡ answer_from l.state.n l.state.side j.task share_of i
    answer_is i less =
        let due = in_jobs l j (Hear last_round) in
        rw answers_is
        (answer_at due j.tapes (work_after l j earlier_rounds) (j.incoming last_round) i counted less
        ∙ from_same l.state.n l.state.side j.task _ share_of i
        (λ k low. rw (same_party (Hear last_round) k low, work_is earlier_rounds k low) refl)
        less)

    pub no_answer : (i : ℕ) → answer_count j.task ≤ i → get_or (answers l j) i 0 ≡ 0
    no_answer i past =
        rw answers_is (answer_past (in_jobs l j (Hear last_round)) j.tapes (work_after l j earlier_rounds) (j.incoming last_round) i past)
