-- `lines::writing::Page::put_spaced` meets its contract: each turn puts a space and a number.
use Rattle.std.proofs.Common.{◌+◌, ◌*◌, ◌≤◌, take}
use Rattle.lines.specs.Writing.{spaced}
use Rattle.lines.specs.Pages.{Puts}
use Rattle.lines.proofs.writing.Page.put_spaced.Given as goal

abbrev pub invariant-loop-number : goal.invariant-loop-number
invariant-loop-number l =
    record { puts : Puts l.initial.self l.self (spaced (take l.number-index l.numbers)); most : l.self.len ≤ l.initial.self.len + 11 * l.number-index }
