-- `dealer::plain_body` meets its contract: zeros in all of the body, then box 1's ones.
use Prim.Native.Nat.{ℕ, ◌-◌, ◌≤◌}
use mathlib.Core.Path.{◌≡◌, refl, sym, ap, ap₂, ◌∙◌}
use mathlib.Core.List.{List, ◌++◌}
use native.Mathlib.Omega.{arith}
use borrow.Author.Tests.{eq-eqb, ne_eqb}
use borrow.Rule.Slice.PartMut.{mid_len}
use lib.ListN.{length, take, drop, replicate, length-take}
use lib.Seq.{sets, length-sets}
use Rattle.lists.specs.Tabulate.{tabulate}
use Rattle.lists.proofs.Tabulate.{length_tabulate, tabulate_same}
use Rattle.lists.proofs.Sets.{sets_front}
use Rattle.lists.proofs.Parts.{put_whole}
use Rattle.tape.specs.Layout.{body_length}
use Rattle.tape.specs.Plain.{plain_word}
use Rattle.dealer.proofs.Stores.{repeated, ones_stored, one_between}
use Rattle.dealer.proofs.plain_body.Goals.{After-fill}
use Rattle.dealer.proofs.plain_body.Goals as goal

-- the zeros
module _ (s : After-fill) where
  abbrev count : ℕ
  count = body_length s.args.n.bits

  body_is : s.body_words-body.result ≡ count
  body_is = omega (arith, s.body_words-body.ensures)

  zeros_stored : s.fill.new.self ++ drop (s.body_words-body.result) s.args.tape.now ≡ sets s.args.tape.now 0 (tabulate count (λ j. 0))
  zeros_stored =
      let tape = s.args.tape.now in
      let zeros : List ℕ = tabulate count (λ j. 0) in
      let long : length zeros ≡ count = length_tabulate count (λ j. 0) in
      let filled : length (take (s.body_words-body.result) tape) ≡ count = length-take (s.body_words-body.result) tape ∙ omega (arith, body_is, s.requires) in
      ap₂ (λ (words : List ℕ) (k : ℕ). words ++ drop k tape)
      (s.fill.ensures.after (λ y same. same) ∙ ap (λ (k : ℕ). replicate k 0) filled ∙ repeated count 0)
      (body_is ∙ sym long)
      ∙ sym (sets_front tape zeros (omega (arith, long, s.requires)))

pub returns-then-side-eq-ONES_AT : goal.returns-then-side-eq-ONES_AT
returns-then-side-eq-ONES_AT c =
    let a = c.args in
    let tape = a.tape.now in
    let from = c.section_start-from.result in
    let to = c.section_start-to.result in
    let body : ℕ = body_length a.n.bits in
    let zeros = zeros_stored (goal.at.returns-then-side-eq-ONES_AT c).After-fill in
    let order : from ≤ to = omega (arith, c.section_start-from.ensures, c.section_start-to.ensures) in
    let within : to ≤ body = omega (arith, c.section_start-to.ensures) in
    let room : body ≤ length tape = omega (arith, c.requires) in
    let long = ap length zeros ∙ length-sets tape 0 (tabulate body (λ j. 0)) in
    let lent = mid_len from to (c.fill.new.self ++ drop (c.body_words-body.result) tape) (omega (arith, within, room, long)) in
    let ones = c.fill-then-side-eq-ONES_AT.ensures in
    put_whole from (to - from) _ _ ones.len (omega (arith, ones.len, lent))
    ∙ ap₂ (λ (l words : List ℕ). sets l from words) zeros (ones.after (λ y same. same) ∙ ap (λ (k : ℕ). replicate k 1) lent ∙ repeated (to - from) 1)
    ∙ ones_stored tape body from to room order within
    ∙ ap (sets tape 0) (ap₂ (λ (i j : ℕ). tabulate body (one_between i j)) c.section_start-from.ensures c.section_start-to.ensures)
    ∙ ap (sets tape 0) (tabulate_same body _ (plain_word a.n.bits a.side) (λ j less. rw (eq-eqb a.side 1 c.if-side-eq-ONES_AT.true) refl))

pub returns-else-side-eq-ONES_AT : goal.returns-else-side-eq-ONES_AT
returns-else-side-eq-ONES_AT c =
    let a = c.args in
    zeros_stored (goal.at.returns-else-side-eq-ONES_AT c).After-fill
    ∙ ap (sets a.tape.now 0) (tabulate_same (body_length a.n.bits) (λ j. 0) (plain_word a.n.bits a.side) (λ j less. rw (ne_eqb a.side 1 c.if-side-eq-ONES_AT.false) refl))
