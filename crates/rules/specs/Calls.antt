-- One rule for each call: its reply, the next state and the buffer that it may change, from all that it is given. Refused, it changes nothing.
use Rattle.std.specs.Prelude.{ℕ, ◌+◌, cond, List, [], eqb, length}
use Rattle.std.proofs.lemmas.List.Edits.{sets}
use Rattle.protocol.specs.Rounds.{last_round}
use Rattle.protocol.specs.Sizes.{round_for}
use Rattle.rules.specs.Answers.{Reply, fresh, started, spoke, heard, finished, dropped, refused}
use Rattle.tally.specs.Tally.{first_marks, fresh_count}
use Rattle.rules.specs.Modes.{in_phase}
use Rattle.rules.specs.Tasks.{count_of, pairs_of}
use Rattle.rules.specs.Batches.{no_batch, batch_of, joined_message, joined_after, answer_shares}
use Rattle.rules.specs.Grounds.{wake_ground, start_ground, speak_ground, hear_ground, drop_ground}
use Rattle.rules.specs.declared.state.Turn.TheVariants.{Speak, Hear}
use Rattle.rules.specs.declared.state.Phase.TheVariants.{Idle, Job}
use Rattle.rules.specs.declared.state.Task.{Task}
use Rattle.rules.specs.declared.state.State.{State}

-- `buffer` is the one that the call may change: start's tally, speak's out, hear's work
pub record Result : Type 0 where
  pub reply : Reply
  pub state : State
  pub buffer : List ℕ

-- what a call answered, with the state and the buffer as it left them
abbrev pub outcome : Reply → State → List ℕ → Result
outcome reply state buffer = record { reply = reply; state = state; buffer = buffer }

-- refused with that ground, or, where there is none, the result
abbrev pub unless : ℕ → State → List ℕ → Result → Result
unless cause s buffer result = cond (eqb cause 0) result (record { reply = refused cause; state = s; buffer = buffer })

unfoldable pub wake_rule : State → ℕ → ℕ → ℕ → List ℕ → Result
wake_rule s n side pair tally =
    unless (wake_ground s n side tally) s tally
    (record {
      reply = fresh (fresh_count tally);
      state = record { n = n; side = side; pair = pair; tally = length tally; phase = Idle; batch = no_batch };
      buffer = tally;
    })

-- of comparisons and of a band: marks the tapes of all its jobs
unfoldable pub start_rule : State → ℕ → Task → List ℕ → List ℕ → List ℕ → List ℕ → Result
start_rule s first task shares tapes work tally =
    unless (start_ground s first task shares tapes work tally) s tally
    (record {
      reply = started;
      state = in_phase s (Job (Speak 1)) (batch_of first task (pairs_of s.side task shares));
      buffer = first_marks tally first (count_of task);
    })

unfoldable pub speak_rule : State → ℕ → ℕ → List ℕ → List ℕ → List ℕ → Result
speak_rule s first round tapes work out =
    unless (speak_ground s first round tapes work out) s out
    (record {
      reply = spoke (round_for s.n (count_of s.batch.task) round);
      state = in_phase s (Job (Hear round)) s.batch;
      buffer = sets out 0 (joined_message s tapes work round);
    })

-- what a box gives when it hears that message: after the last round the answer shares come back and the job is closed
unfoldable pub heard_after : State → List ℕ → List ℕ → ℕ → List ℕ → Result
heard_after s tapes work round incoming =
    cond (eqb round last_round)
    (record {
      reply = finished (answer_shares s tapes work incoming);
      state = in_phase s Idle no_batch;
      buffer = joined_after s tapes work round incoming;
    })
    (record {
      reply = heard;
      state = in_phase s (Job (Speak (round + 1))) s.batch;
      buffer = joined_after s tapes work round incoming;
    })

unfoldable pub hear_rule : State → ℕ → ℕ → List ℕ → List ℕ → List ℕ → Result
hear_rule s first round tapes work incoming =
    unless (hear_ground s first round tapes work incoming) s work (heard_after s tapes work round incoming)

unfoldable pub drop_rule : State → Result
drop_rule s =
    unless (drop_ground s) s []
    (record { reply = dropped; state = in_phase s Idle no_batch; buffer = [] })
