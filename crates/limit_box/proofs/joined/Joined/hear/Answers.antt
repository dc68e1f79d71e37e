-- `limit_box::joined::Joined::hear` meets its contract: each job's words come from its part of incoming and are kept in its part of work.
use Rattle.std.proofs.Common.{◌≡◌, ◌<◌, ◌*◌, ◌+◌, ◌≤◌, ℕ, Option, Some, refl, sym, ap, ◌∙◌, arith}
use native.Mathlib.Nat.{le_of_eq}
use borrow.Author.Tests.{eq-eqb}
use lib.ListN.{length}
use lib.Seq.{sets}
use Rattle.std.specs.Option.{unwrap_or}
use Rattle.lists.specs.Joined.{chained}
use Rattle.lists.proofs.Joined.{within, length_part}
use Rattle.protocol.specs.Work.{work_length}
use Rattle.protocol.specs.Products.{Party}
use Rattle.protocol.specs.Rounds.{last_round, round_words, after_hearing, share_after}
use Rattle.rules.specs.Tasks.{count_of}
use Rattle.rules.specs.Batches.{each_job, party_of, work_part, words_part, joined_after, answers_given}
use Rattle.rules.proofs.Batches.{count_most}
use Rattle.limit_box.proofs.Hearing.{lent_part, after_at, told_at, untouched, hear_turn, part_from_line, each_more, last_told, told_below}
use Rattle.limit_box.proofs.joined.Joined.hear.Goals.{In-loop-i, After-loop-i}
use Rattle.limit_box.proofs.joined.Joined.hear.Goals as goal

-- the sizes, as they were counted
module _ (c : In-loop-i) where
  words_is : c.words_of-words.result ≡ round_words c.args.self.state.now.n c.args.round
  words_is = c.words_of-words.ensures ∙ ap (λ (n : ℕ). round_words n c.args.round) c.width-n.ensures

  room_is : c.work_words-room.result ≡ work_length c.args.self.state.now.n
  room_is = c.work_words-room.ensures ∙ ap (λ (n : ℕ). work_length n) c.width-n.ensures

  -- and this turn's job is one of the state's
  less : c.loop-i.i < count_of c.args.self.state.now.batch.task
  less = rw c.count-i-end.ensures at c.loop-i-test.true

pub hear-requires : goal.hear-requires
hear-requires c =
    let k = (goal.at.hear-requires c).In-loop-i in
    let s = c.args.self.state.now in
    let i = c.loop-i.i in
    let size = work_length s.n in
    let n_is = ap (λ (b : Party). b.n) c.party.ensures in
    let fits : i * size + size ≤ length c.loop-i.work =
    omega (arith, within (count_of s.batch.task) size i (less k), c.requires.room, c.loop-i.auto.work) in
    rw (n_is, words_is k, room_is k, lent_part size c.loop-i.work i, lent_part (round_words s.n c.args.round) c.args.incoming.now i) (
      le_of_eq (sym (length_part size c.loop-i.work i fits)),
      part_from_line s c.args.self.tapes.now c.args.work.now c.args.round c.args.incoming.now i (less k) c.requires.words.0
          c.requires.words.1,
    )

pub loop-i-preserved : goal.loop-i-preserved
loop-i-preserved c =
    let k = (goal.at.loop-i-preserved c).In-loop-i in
    let a = c.args in
    let s = a.self.state.now in
    let tapes = a.self.tapes.now in
    let i = c.loop-i.i in
    let size = work_length s.n in
    let words = words_part s.n a.round a.incoming.now i in
    let lent_work = lent_part size c.loop-i.work i in
    let lent_words = lent_part (round_words s.n a.round) a.incoming.now i in
    let heard : c.hear.new.work ≡ after_hearing (party_of s tapes i) (work_part s.n c.loop-i.work i) a.round words =
    c.hear.ensures.value.1 ∙ rw (c.party.ensures, words_is k, room_is k, lent_work, lent_words) refl in
    let same = untouched s tapes a.work.now a.round a.incoming.now c.loop-i.work i (less k) c.requires.room c.loop-i.invariant.0 in
    let share : c.hear.result ≡ share_after (party_of s tapes i) (work_part s.n a.work.now i) a.round words =
    c.hear.ensures.value.0 ∙ rw (c.party.ensures, words_is k, room_is k, lent_work, lent_words, same) refl in
    let answer = told_at s tapes a.work.now a.round a.incoming.now in
    let told : c.unwrap_or.result ≡ answer i = c.unwrap_or.ensures ∙ ap (λ (v : Option ℕ). unwrap_or v 0) share in
    let few : i < 8 = omega (arith, less k, (count_most (count_of s.batch.task) a.self.given.counted).1) in (
      rw (room_is k)
          (hear_turn s tapes a.work.now a.round a.incoming.now c.loop-i.work c.hear.new.work i (less k) c.requires.room c.loop-i.invariant.0
          heard),
      rw (c.loop-i.invariant.1, told) (each_more i answer few),
    )

-- all jobs are passed
module _ (c : After-loop-i) where
  work_is : c.loop-i.work ≡ joined_after c.args.self.state.now c.args.self.tapes.now c.args.work.now c.args.round c.args.incoming.now
  unfolding joined_after
  work_is =
      let a = c.args in
      let s = a.self.state.now in
      let all : c.loop-i.i ≡ count_of s.batch.task = omega (arith, c.count-i-end.ensures) in
      c.loop-i.invariant.0 ∙ ap (λ (k : ℕ). sets a.work.now 0 (chained k (after_at s a.self.tapes.now a.work.now a.round a.incoming.now))) all

  answers_is :
      let a = c.args in
      let s = a.self.state.now in
      c.loop-i.answers ≡ each_job (count_of s.batch.task) (told_at s a.self.tapes.now a.work.now a.round a.incoming.now)
  answers_is =
      let a = c.args in
      let s = a.self.state.now in
      let all : c.loop-i.i ≡ count_of s.batch.task = omega (arith, c.count-i-end.ensures) in
      c.loop-i.invariant.1 ∙ ap (λ (k : ℕ). each_job k (told_at s a.self.tapes.now a.work.now a.round a.incoming.now)) all

pub returns-then-round-eq-LAST_ROUND-clause-shares : goal.returns-then-round-eq-LAST_ROUND-clause-shares
returns-then-round-eq-LAST_ROUND-clause-shares c =
    let a = c.args in
    let s = a.self.state.now in
    let answers = answers_is (goal.at.returns-then-round-eq-LAST_ROUND-clause-shares c).After-loop-i in
    rw (eq-eqb a.round last_round c.if-round-eq-LAST_ROUND.true)
    (ap Some
    (c.given.ensures
    ∙ ap (answers_given s.n s.side s.batch.task) answers
    ∙ last_told s a.self.tapes.now a.work.now a.round a.incoming.now c.if-round-eq-LAST_ROUND.true))

pub returns-then-round-eq-LAST_ROUND-clause-work : goal.returns-then-round-eq-LAST_ROUND-clause-work
returns-then-round-eq-LAST_ROUND-clause-work c = work_is (goal.at.returns-then-round-eq-LAST_ROUND-clause-work c).After-loop-i

pub returns-else-round-eq-LAST_ROUND-clause-work : goal.returns-else-round-eq-LAST_ROUND-clause-work
returns-else-round-eq-LAST_ROUND-clause-work c = work_is (goal.at.returns-else-round-eq-LAST_ROUND-clause-work c).After-loop-i

-- what is given back is from answers below p
pub given-requires : goal.given-requires
given-requires c =
    let a = c.args in
    let k = (goal.at.given-requires c).After-loop-i in
    let below =
    told_below a.self.state.now a.self.tapes.now a.work.now a.round a.incoming.now a.self.given.width c.if-round-eq-LAST_ROUND.true in
    rw (answers_is k) (below 0, below 1)
