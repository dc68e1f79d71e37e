-- One exchange of two boxes: round after round each hears what the other sends.
use Rattle.std.specs.Prelude.{ℕ, zero, suc, List}
use Rattle.protocol.specs.Products.{Party}
use Rattle.protocol.specs.Rounds.{earlier_rounds, last_round, message, after_hearing, answer_share}

-- the work of both boxes
pub record Both : Type 0 where
  pub own : List ℕ
  pub others : List ℕ

-- after so many rounds, from any work
unfoldable pub exchanged : Party → Party → Both → ℕ → Both
exchanged own others w zero = w
exchanged own others w (suc r) =
    let v = exchanged own others w r in
    record {
      own = after_hearing own v.own (suc r) (message others v.others (suc r));
      others = after_hearing others v.others (suc r) (message own v.own (suc r));
    }

-- what the box sends in a round, and what the other sends
unfoldable pub sent_own : Party → Party → Both → ℕ → List ℕ
sent_own own others w zero = message own w.own zero
sent_own own others w (suc r) = message own (exchanged own others w r).own (suc r)

unfoldable pub sent_others : Party → Party → Both → ℕ → List ℕ
sent_others own others w zero = message others w.others zero
sent_others own others w (suc r) = message others (exchanged own others w r).others (suc r)

-- the two answer shares, after the last round was heard
unfoldable pub answer_own : Party → Party → Both → ℕ
answer_own own others w = answer_share own (exchanged own others w earlier_rounds).own (sent_others own others w last_round)

unfoldable pub answer_others : Party → Party → Both → ℕ
answer_others own others w = answer_share others (exchanged own others w earlier_rounds).others (sent_own own others w last_round)
