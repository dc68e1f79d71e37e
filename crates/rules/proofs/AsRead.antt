-- A message is heard as it is read.
use Prim.Native.Nat.{ℕ, ◌*◌}
use mathlib.Core.Path.{◌≡◌, refl, ap, ◌∙◌}
use mathlib.Core.List.{List}
use lib.ListN.{length, get_or, take, drop}
use lib.Seq.{sets}
use Rattle.std.proofs.lemmas.List.{take-map, drop-map}
use Rattle.lists.specs.Every.{every}
use Rattle.lists.proofs.Every.{every_same}
use Rattle.lists.proofs.Joined.{chained_same}
use Rattle.shares.specs.Reading.{read, legible, read_words}
use Rattle.shares.proofs.Reading.{length_read, get_d_read, legible_read}
use Rattle.protocol.specs.Rounds.{last_round, round_words, after_hearing, answer_share}
use Rattle.protocol.proofs.AsRead.{after_read, answer_read}
use Rattle.rules.specs.Tasks.{count_of}
use Rattle.rules.specs.Batches.{party_of, work_part, words_part, joined_after, answers_given, answer_shares}
use Rattle.rules.specs.Grounds.{words_fit, hear_ground}
use Rattle.rules.specs.Calls.{heard_after, hear_rule}
use Rattle.rules.specs.AsRead.{HeardAsRead}
use Rattle.rules.specs.declared.state.State.{State}
use Rattle.rules.proofs.Batches.{each_same}

-- a word that is read can be read just when it could before
pub fits_read : (n : ℕ) (words : List ℕ) → words_fit n (read_words n words) ≡ words_fit n words
fits_read n words =
    every_same (length (read_words n words)) (λ i. legible n (get_or (read_words n words) i 0)) (λ i. legible n (get_or words i 0))
    (λ i less. ap (legible n) (get_d_read n words i) ∙ legible_read n (get_or words i 0))
    ∙ ap (λ (k : ℕ). every k (λ i. legible n (get_or words i 0))) (length_read n words)

pub ground_read : (s : State) (first round : ℕ) (tapes work incoming : List ℕ)
    → hear_ground s first round tapes work (read_words s.n incoming) ≡ hear_ground s first round tapes work incoming
unfolding hear_ground
ground_read s first round tapes work incoming = rw (fits_read s.n incoming, length_read s.n incoming) refl

-- a job's part of the words is read as the words are
part_read : (n round : ℕ) (words : List ℕ) (i : ℕ) → words_part n round (read_words n words) i ≡ read_words n (words_part n round words i)
part_read n round words i =
    let size = round_words n round in
    ap (take size) (drop-map (read n) (i * size) words) ∙ take-map (read n) size (drop (i * size) words)

joined_read : (s : State) (tapes work : List ℕ) (round : ℕ) (incoming : List ℕ)
    → joined_after s tapes work round (read_words s.n incoming) ≡ joined_after s tapes work round incoming
unfolding joined_after
joined_read s tapes work round incoming =
    ap (sets work 0)
    (chained_same (count_of s.batch.task) _ _
    (λ i less.
    ap (after_hearing (party_of s tapes i) (work_part s.n work i) round) (part_read s.n round incoming i)
    ∙ after_read (party_of s tapes i) (work_part s.n work i) (words_part s.n round incoming i) round))

answers_read : (s : State) (tapes work incoming : List ℕ) → answer_shares s tapes work (read_words s.n incoming) ≡ answer_shares s tapes work incoming
unfolding answer_shares
answers_read s tapes work incoming =
    ap (answers_given s.n s.side s.batch.task)
    (each_same (count_of s.batch.task) _ _
    (λ i less.
    ap (answer_share (party_of s tapes i) (work_part s.n work i)) (part_read s.n last_round incoming i)
    ∙ answer_read (party_of s tapes i) (work_part s.n work i) (words_part s.n last_round incoming i)))

pub heard_as_read : HeardAsRead
unfolding hear_rule heard_after
heard_as_read s first round tapes work incoming =
    rw (ground_read s first round tapes work incoming, joined_read s tapes work round incoming, answers_read s tapes work incoming) refl
