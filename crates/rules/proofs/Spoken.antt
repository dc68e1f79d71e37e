-- The jobs' messages joined: how long they are, that they stand at the front of out, and that their words are below p. And what is kept in each job's
-- part of work after such words were heard.
use Prim.Native.Nat.{ℕ, ◌<◌, ◌≤◌}
use mathlib.Core.Path.{◌≡◌, ap, ◌∙◌}
use mathlib.Core.Bool.{true}
use mathlib.Core.List.{List}
use native.Mathlib.Nat.{le_of_lt}
use native.Mathlib.Omega.{arith}
use lib.ListN.{length, take}
use lib.Seq.{sets, length-sets, take_at}
use borrow.Author.Tests.{le-leb}
use Rattle.lists.proofs.Every.{every_intro}
use Rattle.lists.proofs.Sets.{sets_front}
use Rattle.lists.proofs.Joined.{within, length_chained, length_part, part_sets, all_chained}
use Rattle.field.specs.Width.{listed}
use Rattle.shares.specs.Reading.{legible}
use Rattle.protocol.specs.Work.{work_length}
use Rattle.protocol.specs.Products.{Party}
use Rattle.protocol.specs.Rounds.{round_words, message, after_hearing}
use Rattle.protocol.specs.Sizes.{round_for, work_for}
use Rattle.protocol.proofs.Lengths.{message_length, after_length}
use Rattle.protocol.proofs.Ranges.{message_below}
use Rattle.rules.specs.Tasks.{count_of}
use Rattle.rules.specs.Batches.{party_of, work_part, words_part, joined_message, joined_after}
use Rattle.rules.specs.Grounds.{words_fit}
use Rattle.rules.specs.declared.state.State.{State}

-- ---- what a box sends

pub joined_length : (s : State) (tapes work : List ℕ) (round : ℕ) → length (joined_message s tapes work round) ≡ round_for s.n (count_of s.batch.task) round
unfolding joined_message
joined_length s tapes work round =
    length_chained (count_of s.batch.task) (round_words s.n round) _ (λ i less. message_length _ _ round)

pub spoken_front : (s : State) (tapes work out : List ℕ) (round : ℕ) → round_for s.n (count_of s.batch.task) round ≤ length out
    → take (round_for s.n (count_of s.batch.task) round) (sets out 0 (joined_message s tapes work round)) ≡ joined_message s tapes work round
spoken_front s tapes work out round room =
    let words = joined_message s tapes work round in
    let long = joined_length s tapes work round in
    ap (take (round_for s.n (count_of s.batch.task) round)) (sets_front out words (omega (arith, long)))
    ∙ take_at words _ (round_for s.n (count_of s.batch.task) round) long

-- the words are below p, so a box of that width can read them
one_fits : (q : Party) (work : List ℕ) (round : ℕ) → listed q.n ≡ true → words_fit q.n (message q work round) ≡ true
unfolding legible
one_fits q work round l =
    every_intro (length (message q work round)) _ (λ j inside. le-leb _ _ (le_of_lt ((message_below q l work round).at j)))

pub message_fits_lem : (s : State) (tapes work : List ℕ) (round : ℕ) → listed s.n ≡ true → words_fit s.n (joined_message s tapes work round) ≡ true
unfolding joined_message
message_fits_lem s tapes work round l =
    all_chained (legible s.n) (count_of s.batch.task) (round_words s.n round) _ (λ i less. one_fits _ _ round l)

-- ---- what it holds after hearing

pub joined_after_length : (s : State) (tapes work : List ℕ) (round : ℕ) (incoming : List ℕ)
    → length (joined_after s tapes work round incoming) ≡ length work
unfolding joined_after
joined_after_length s tapes work round incoming = simp length-sets

-- in each job's part what that job keeps of its own part of the words
pub after_part : (s : State) (tapes work : List ℕ) (round : ℕ) (incoming : List ℕ) (i : ℕ) → i < count_of s.batch.task
    → work_for s.n (count_of s.batch.task) ≤ length work
    → work_part s.n (joined_after s tapes work round incoming) i
    ≡ after_hearing (party_of s tapes i) (work_part s.n work i) round (words_part s.n round incoming i)
unfolding joined_after
after_part s tapes work round incoming i less room =
    part_sets work (count_of s.batch.task) (work_length s.n) _ i less room
    (λ k l.
    after_length (party_of s tapes k) (work_part s.n work k) (words_part s.n round incoming k) round
    ∙ length_part (work_length s.n) work k (omega (arith, within (count_of s.batch.task) (work_length s.n) k l)))
