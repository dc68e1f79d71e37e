-- `limit_box::joined::Joined::speak` meets its contract: each job's message goes to its part of out.
use Rattle.std.proofs.Common.{◌≡◌, ◌<◌, ◌*◌, ◌+◌, ◌≤◌, ℕ, ap, ◌∙◌, arith}
use lib.ListN.{length}
use lib.Seq.{sets}
use Rattle.lists.specs.Joined.{chained}
use Rattle.lists.proofs.Joined.{within}
use Rattle.protocol.specs.Work.{work_length}
use Rattle.protocol.specs.Rounds.{round_words}
use Rattle.rules.specs.Tasks.{count_of}
use Rattle.rules.specs.Batches.{joined_message}
use Rattle.limit_box.proofs.Hearing.{message_at, speak_part, speak_turn}
use Rattle.limit_box.proofs.joined.Joined.speak.Goals as goal

pub loop-i-preserved : goal.loop-i-preserved
loop-i-preserved c =
    let a = c.args in
    let s = a.self.state.now in
    let i = c.loop-i.i in
    let size = round_words s.n a.round in
    let less : i < count_of s.batch.task = rw c.count-i-end.ensures at c.loop-i-test.true in
    let words : c.words_of-words.result ≡ size = c.words_of-words.ensures ∙ ap (λ (n : ℕ). round_words n a.round) c.width-n.ensures in
    let room : c.work_words-room.result ≡ work_length s.n = c.work_words-room.ensures ∙ ap (λ (n : ℕ). work_length n) c.width-n.ensures in
    let fits : i * size + size ≤ length c.loop-i.out =
    omega (arith, within (count_of s.batch.task) size i less, c.requires.1, c.loop-i.auto.out) in
    let own = c.speak.ensures ∙ speak_part s a.self.tapes.now a.work.now a.round _ _ _ c.loop-i.out i words room c.party.ensures fits in
    rw words
    (speak_turn s a.self.tapes.now a.work.now a.round a.out.now c.loop-i.out c.speak.new.out i less c.requires.1 c.loop-i.invariant own)

pub returns : goal.returns
unfolding joined_message
returns c =
    let a = c.args in
    let s = a.self.state.now in
    let all : c.loop-i.i ≡ count_of s.batch.task = omega (arith, c.count-i-end.ensures) in
    c.loop-i.invariant ∙ ap (λ (k : ℕ). sets a.out.now 0 (chained k (message_at s a.self.tapes.now a.work.now a.round))) all
