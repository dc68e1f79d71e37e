-- `same` meets its contract: the words that are left decide.
use Rattle.std.proofs.Common.{◌≡◌, drop}
use Rattle.vectors.specs.Numbers.{spelled}
use Rattle.vectors.proofs.numbers.Reader.same.Given as goal

abbrev pub invariant-loop-word : goal.invariant-loop-word
invariant-loop-word l = spelled l.initial.self.text.now l.words ≡ spelled l.self.text.now (drop l.word-index l.words)
