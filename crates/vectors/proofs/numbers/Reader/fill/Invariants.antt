-- `fill` meets its contract: what is left to read decides, and goes to the places that are left.
use Rattle.std.proofs.Common.{◌≡◌, ◌-◌, length}
use Rattle.std.proofs.lemmas.List.Edits.{sets}
use Rattle.vectors.specs.Numbers.{numbers_from, read_to}
use Rattle.vectors.proofs.numbers.Reader.fill.Given as goal

abbrev pub invariant-loop-number : goal.invariant-loop-number
invariant-loop-number l =
    (read_to (length l.initial.into) l.initial.self.text.now ≡ read_to (length l.initial.into - l.number-index) l.self.text.now)
    × (sets l.initial.into 0 (numbers_from (length l.initial.into) l.initial.self.text.now)
    ≡ sets l.into l.number-index (numbers_from (length l.initial.into - l.number-index) l.self.text.now))
