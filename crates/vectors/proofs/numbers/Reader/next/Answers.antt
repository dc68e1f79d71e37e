-- `next` meets its contract: the digits from the first to the next byte that is none are the number.
use Rattle.std.proofs.Common.{◌≡◌, ℕ, ◌-◌, not, length, take, drop, rules, sym, ◌∙◌}
use Rattle.std.proofs.lemmas.List.{take_rest}
use Rattle.std.specs.Char.{is_ascii_digit}
use Rattle.std.specs.List.{position}
use Rattle.std.proofs.lemmas.Iterator.{YieldsList-from_slice}
use Rattle.std.proofs.lemmas.Iterator.Search.{position_from_yields_List}
use Rattle.vectors.proofs.Readings.{next_none, next_read}
use Rattle.vectors.proofs.numbers.Reader.next.Goals.{After-position}
use Rattle.vectors.proofs.numbers.Reader.next.Goals as goal

-- where the digits begin
at_first : (p : After-position) → p.position.result ≡ position is_ascii_digit p.args.self.now.text.now
at_first p =
    position_from_yields_List is_ascii_digit _ _ p.position.result p.position.ensures.ran
    (YieldsList-from_slice _ p.iter.ensures.rest) (λ x b q k. search rules)

pub returns-in_err-first : goal.returns-in_err-first
returns-in_err-first c =
    let none = next_none c.args.self.now.text.now (sym (at_first (goal.at.returns-in_err-first c).After-position) ∙ c.in_err-first.was) in
    rw (none, c.from_residual.ensures)

pub returns : goal.returns
returns c =
    let found = sym (at_first (goal.at.returns c).After-position) ∙ c.in_ok-first.was in
    let text = c.args.self.now.text.now in
    let first = c.in_ok-first.first in
    let digits = take (length text - first) (drop first text) in
    let end : c.position-end.result ≡ position (λ (b : ℕ). not (is_ascii_digit b)) digits =
    position_from_yields_List (λ (b : ℕ). not (is_ascii_digit b)) _ _ c.position-end.result c.position-end.ensures.ran
    (YieldsList-from_slice _ c.iter-2.ensures.rest) (λ x b q k. search rules) in
    next_read text digits _ _ _ _ _ found (take_rest text first)
    (c.unwrap_or.ensures ∙ rw end) c.split_at.ensures.front c.split_at.ensures.back c.number_of.ensures
