-- A box takes what the link board delivers as it would take the words on the line: refused alike, and what it then does is the same.
use Prim.Native.Nat.{ℕ}
use mathlib.Core.Path.{◌≡◌, sym, ap, ◌∙◌}
use mathlib.Core.List.{List}
use Rattle.shares.proofs.Reading.{delivered_read}
use Rattle.rules.specs.Grounds.{hear_ground}
use Rattle.rules.specs.Calls.{hear_rule}
use Rattle.rules.proofs.AsRead.{ground_read, heard_as_read}
use Rattle.guarantees.specs.Entries.{Lent, Incoming}
use Rattle.guarantees.specs.Run.{Setting, Memory, Event, tape_words, line_words, incoming_words}

module _ (g : Setting) (place : ℕ) (m : Memory) (log : List Event) (first round : ℕ) (lent : Lent) (incoming : Incoming) where
  abbrev words : List ℕ
  words = line_words log incoming

  abbrev spelled : List ℕ
  spelled = incoming_words g place m.state log incoming

  pub ground_lent : hear_ground m.state first round (tape_words g lent) m.work spelled ≡ hear_ground m.state first round (tape_words g lent) m.work words
  ground_lent =
      sym (ground_read m.state first round (tape_words g lent) m.work spelled)
      ∙ ap (hear_ground m.state first round (tape_words g lent) m.work) (delivered_read m.state.n (g.board place) words)
      ∙ ground_read m.state first round (tape_words g lent) m.work words

  pub rule_lent : hear_rule m.state first round (tape_words g lent) m.work spelled ≡ hear_rule m.state first round (tape_words g lent) m.work words
  rule_lent =
      sym (heard_as_read m.state first round (tape_words g lent) m.work spelled)
      ∙ ap (hear_rule m.state first round (tape_words g lent) m.work) (delivered_read m.state.n (g.board place) words)
      ∙ heard_as_read m.state first round (tape_words g lent) m.work words
