-- Document 02, P3: a box hears a message as it is read. Whatever a hear is given, its answer, the next state and work are what they would be with
-- every word p of the message as 0; so it is refused alike too.
use Rattle.std.specs.Prelude.{ℕ, ◌≡◌, List}
use Rattle.shares.specs.Reading.{read_words}
use Rattle.rules.specs.Calls.{hear_rule}
use Rattle.rules.specs.declared.state.State.{State}

abbrev pub HeardAsRead : Type 0
HeardAsRead =
    (s : State) (first round : ℕ) (tapes work incoming : List ℕ)
    → hear_rule s first round tapes work (read_words s.n incoming) ≡ hear_rule s first round tapes work incoming
