use Rattle.std.proofs.Common.{◌≡◌, [], ◌∷◌, length, cond, sym, rules, arith}
use Rattle.std.proofs.lemmas.Fn.{always_returns_same}
use Rattle.std.proofs.lemmas.Option.{cond_some}
use Rattle.lines.specs.Reading.{line_of, parts_of, value_of, is_number}
use Rattle.lines.proofs.FirstLine.{is_newline, line_next}
use Rattle.lines.proofs.Turns.{Read, begin, turn, no_number, too_many}
use Rattle.lines.proofs.Parts.{is_space, parts_next}
use Rattle.lines.proofs.reading.numbers_into.Goals.{After-split-parts, In_ok-next}
use Rattle.lines.proofs.reading.numbers_into.Goals as goal

-- split's first part is the line
first_part : (c : After-split-parts) → c.in_ok-line.line.now ≡ line_of c.args.text.now
first_part c =
    let took = rw (c.split.ensures.rest) at c.in_ok-line.ensures.steps in
    let first = took.2 is_newline (always_returns_same _ _ _ (λ a r q k. search rules)) in
    line_next c.args.text.now c.in_ok-line.line.now c.next.new.self.rest.now c.next.new.self.done took.1 first.1

-- with the part that was taken in front of those that are left
next_read : (c : In_ok-next)
    → let rest = c.next-in-loop-number.new.self in
    Read (line_of c.args.text.now) (length c.args.numbers.now) (c.in_ok-next.field-0.now ∷ cond rest.done [] (parts_of rest.rest.now)) c.loop-number.numbers c.loop-number.number-index
next_read c =
    let took = c.in_ok-next.ensures.steps in
    let parts = parts_next c.loop-number.parts.rest.now c.in_ok-next.field-0.now c.next-in-loop-number.new.self.rest.now c.next-in-loop-number.new.self.done took.1 (took.2 is_space (always_returns_same _ _ _ (λ a r q k. search rules))).1 in
    rw (took.0, parts) at c.loop-number.invariant

pub loop-number-init : goal.loop-number-init
loop-number-init c = rw (c.split-parts.ensures.done, c.split-parts.ensures.rest) (begin _ _ (length c.args.numbers.now) c.args.numbers.now (first_part c))

pub returns-in_err-number-clause-some : goal.returns-in_err-number-clause-some
returns-in_err-number-clause-some c =
    let none = no_number _ _ _ _ _ _ (next_read (goal.at.returns-in_err-number-clause-some c).In_ok-next) (grind arith) in
    rw (none, c.from_residual-in_err-number.ensures) (λ h. h, λ h. h)

pub loop-number-preserved : goal.loop-number-preserved
loop-number-preserved c =
    let fits = cond_some (is_number c.in_ok-next.field-0.now) (value_of c.in_ok-next.field-0.now) c.in_ok-number.field-0 (sym c.in_ok-number.ensures) in
    let was = next_read (goal.at.loop-number-preserved c).In_ok-next in
    rw (← fits.1) (turn _ _ _ _ _ _ was fits.0 (omega arith))

pub returns-in-Some-clause-some : goal.returns-in-Some-clause-some
returns-in-Some-clause-some c =
    let took = c.in-Some.ensures.steps in
    let parts = parts_next c.loop-number.parts.rest.now c.in-Some.field-0.now c.next-2.new.self.rest.now c.next-2.new.self.done took.1 (took.2 is_space (always_returns_same _ _ _ (λ a r q k. search rules))).1 in
    let none = too_many _ _ _ _ _ _ (rw (took.0, parts) at c.loop-number.invariant) (omega arith) in
    rw none (λ h. h, λ h. h)
