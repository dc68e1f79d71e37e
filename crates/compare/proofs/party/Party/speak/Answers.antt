-- Each arm is a round's number, and stores that round's words; the last is none of them.
use Rattle.std.proofs.Common.{ℕ, ◌≡◌, ◌≤◌, List, length, length-take-le, sym, ap, ◌∙◌, arith}
use Rattle.std.proofs.lemmas.List.Edits.{sets}
use Rattle.protocol.specs.Work.{half_slot}
use Rattle.protocol.specs.Rounds.{round_words, message}
use Rattle.protocol.specs.Filling.{filled}
use Rattle.protocol.proofs.ByRound.{no_message}
use Rattle.protocol.proofs.Filling.{filled_whole}
use Rattle.protocol.proofs.Reading.{held_below}
use Rattle.protocol.proofs.Lengths.{message_length}
use Rattle.compare.specs.Parties.{party_of}
use Rattle.compare.proofs.Closings.{three_below}
use Rattle.compare.proofs.Messages.{level_message, wrap_message, half_message}
use Rattle.compare.proofs.party.Party.speak.Goals.{Start}
use Rattle.compare.proofs.party.Party.speak.Goals as goal

-- the room of the round
room : (s : Start) (round : ℕ) → s.args.round ≡ round → round_words s.args.self.n.bits round ≤ length s.args.out.now
room s round e = rw e at s.requires.1

pub open_products-requires-clause-places : goal.open_products-requires-clause-places
unfolding round_words
open_products-requires-clause-places c =
    let count = c.group_count-count.ensures in
    let room' : c.group_count-count.result ≤ length c.args.work.now = omega (arith, count, c.requires.0) in
    let long = length-take-le c.group_count-count.result c.args.work.now room' in
    (omega (arith, long, count, c.triples-triples.ensures.long), omega (arith, long, count, room (goal.at.open_products-requires-clause-places c).Start 2 c.in-2.is))

pub send_levels-requires : goal.send_levels-requires
unfolding round_words
send_levels-requires c = (omega (arith, c.requires.0), room (goal.at.send_levels-requires c).Start 3 c.in-3.is)

pub open_products-requires-in-4-clause-places : goal.open_products-requires-in-4-clause-places
unfolding round_words
open_products-requires-in-4-clause-places c =
    let three : length c.sums-sums.result ≡ 3 = ap length c.sums-sums.ensures in
    (omega (arith, three, c.wrap_triple-first.ensures, c.triples-triples-in-4.ensures.long), omega (arith, three, room (goal.at.open_products-requires-in-4-clause-places c).Start 4 c.in-4.is))

-- round 5's words, before what the steps ask: wrong words fail here
pub returns-in-5 : goal.returns-in-5
returns-in-5 c =
    let a = c.args in
    c.open_halves.ensures
    ∙ rw (c.triples.ensures.words, c.triples.ensures.width, c.halves-halves.ensures, c.in-5.is)
    (ap (λ (ws : List ℕ). sets a.out.now 0 ws) (half_message (party_of a.self) a.work.now))

pub open_halves-requires-clause-below : goal.open_halves-requires-clause-below
open_halves-requires-clause-below c =
    let a = c.args in
    let n = a.self.n.bits in
    rw c.triples.ensures.width (three_below _ _ c.halves-halves.ensures (λ k. held_below n a.work.now (half_slot n k) a.self.n.listed))

pub open_halves-requires-clause-places : goal.open_halves-requires-clause-places
unfolding round_words
open_halves-requires-clause-places c =
    rw c.triples.ensures.width (omega (arith, c.triples.ensures.long), room (goal.at.open_halves-requires-clause-places c).Start 5 c.in-5.is)

pub returns-in-1 : goal.returns-in-1
returns-in-1 c =
    let a = c.args in
    let b = party_of a.self in
    let words = message b a.work.now 1 in
    let whole : c.words_of.result ≡ length words = c.words_of.ensures ∙ sym (message_length b a.work.now 1) in
    rw c.in-1.is (c.fill.ensures a.work.now ∙ ap (filled a.out.now words) whole ∙ filled_whole a.out.now words)

pub returns-in-2 : goal.returns-in-2
returns-in-2 c =
    let a = c.args in
    c.open_products.ensures
    ∙ rw (c.group_count-count.ensures, c.triples-triples.ensures.words, c.triples-triples.ensures.width, c.powers.ensures.words, c.in-2.is)
    (ap (λ (ws : List ℕ). sets a.out.now 0 ws) (level_message (party_of a.self) a.work.now a.self.readable (omega (arith, c.requires.0))))

pub returns-in-3 : goal.returns-in-3
unfolding message
returns-in-3 c =
    c.send_levels.ensures ∙ rw c.in-3.is

pub returns-in-4 : goal.returns-in-4
returns-in-4 c =
    let a = c.args in
    c.open_products-in-4.ensures
    ∙ rw (c.wrap_triple-first.ensures, c.triples-triples-in-4.ensures.words, c.triples-triples-in-4.ensures.width, c.known_tests-tests.ensures.2, c.sums-sums.ensures, c.in-4.is)
    (ap (λ (ws : List ℕ). sets a.out.now 0 ws) (wrap_message (party_of a.self) a.work.now a.self.n.listed))

pub returns-in_default : goal.returns-in_default
returns-in_default c =
    let a = c.args in
    sym
    (ap (λ (ws : List ℕ). sets a.out.now 0 ws)
    (no_message a.round c.in_default.in_default-own.rest (party_of a.self) a.work.now))
