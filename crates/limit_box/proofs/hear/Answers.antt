-- `limit_box::hear` meets its contract: one that is not refused is of the job that the state is in; after the last round the answer shares come back.
use Rattle.std.proofs.Common.{◌≡◌, ◌+◌, ℕ, Bool, true, false, List, Option, Some, None, sym, ap, ◌∙◌, arith}
use mathlib.Core.Bool.{cond}
use lib.Dec.{eqb}
use Rattle.std.specs.Option.{is_some}
use Rattle.protocol.specs.Rounds.{last_round}
use Rattle.rules.specs.Answers.{heard_or_finished}
use Rattle.rules.specs.Batches.{no_batch, joined_after, answer_shares}
use Rattle.rules.specs.Modes.{in_phase}
use Rattle.rules.specs.Calls.{outcome, hear_rule}
use Rattle.rules.specs.declared.state.Turn.TheVariants.{Speak}
use Rattle.rules.specs.declared.state.Phase.TheVariants.{Idle, Job}
use Rattle.limit_box.proofs.Hearing.{hear_outcome}
use Rattle.rules.proofs.Passed.{HearPassed, hear_passed}
use Rattle.limit_box.proofs.hear.Goals.{In_ok-joined, After-hear-shares}
use Rattle.limit_box.proofs.hear.Goals as goal

passed : (c : In_ok-joined)
    → let a = c.args in
    HearPassed a.state.now a.first a.round a.tapes.now a.work.now a.incoming.now
passed c =
    let a = c.args in
    hear_passed a.state.now a.first a.round a.tapes.now a.work.now a.incoming.now (sym c.in_ok-joined.ensures.ground)

pub hear-shares-requires-clause-room : goal.hear-shares-requires-clause-room
hear-shares-requires-clause-room c =
    rw (c.in_ok-joined.ensures.joined.0) (passed (goal.at.hear-shares-requires-clause-room c).In_ok-joined).room

pub hear-shares-requires-clause-words : goal.hear-shares-requires-clause-words
hear-shares-requires-clause-words c =
    let go = passed (goal.at.hear-shares-requires-clause-words c).In_ok-joined in
    rw (c.in_ok-joined.ensures.joined.0) (go.long, go.words)

pub overflow_add-state : goal.overflow_add-state
overflow_add-state c =
    omega (arith, (passed (goal.at.overflow_add-state c).In_ok-joined).turn.range.last)

-- what came back says whether the round was the last
last_is : (last : Bool) (answers : List ℕ) (told : Option (List ℕ)) (some : Bool) → told ≡ cond last (Some answers) None → some ≡ is_some told → last ≡ some
last_is true answers told some e is = sym (is ∙ ap is_some e)
last_is false answers told some e is = sym (is ∙ ap is_some e)

-- of the state that was checked, and the tapes that it was lent
module _ (c : After-hear-shares) where
  abbrev answers : List ℕ
  answers = answer_shares c.args.state.now c.args.tapes.now c.args.work.now c.args.incoming.now

  shares_is : c.hear-shares.result ≡ cond (eqb c.args.round last_round) (Some answers) None
  shares_is = rw (← c.in_ok-joined.ensures.joined.0, ← c.in_ok-joined.ensures.joined.1) c.hear-shares.ensures.shares

  work_is : c.hear-shares.new.work ≡ joined_after c.args.state.now c.args.tapes.now c.args.work.now c.args.round c.args.incoming.now
  work_is = rw (← c.in_ok-joined.ensures.joined.0, ← c.in_ok-joined.ensures.joined.1) c.hear-shares.ensures.work

  outcome_is : (last : Bool) → eqb c.args.round last_round ≡ last
      → outcome (heard_or_finished c.hear-shares.result)
      (cond last (in_phase c.args.state.now Idle no_batch) (in_phase c.args.state.now (Job (Speak (c.args.round + 1))) c.args.state.now.batch)) c.hear-shares.new.work
      ≡ hear_rule c.args.state.now c.args.first c.args.round c.args.tapes.now c.args.work.now c.args.incoming.now
  outcome_is last e =
      let a = c.args in
      rw (shares_is, work_is, e)
      (hear_outcome a.state.now a.first a.round a.tapes.now a.work.now a.incoming.now last (sym c.in_ok-joined.ensures.ground) e)

pub returns-then-is_some : goal.returns-then-is_some
returns-then-is_some c =
    let h = (goal.at.returns-then-is_some c).After-hear-shares in
    rw c.close.ensures (outcome_is h true (last_is _ _ _ true (shares_is h) c.if-is_some.ensures))

pub returns-else-is_some : goal.returns-else-is_some
returns-else-is_some c =
    let h = (goal.at.returns-else-is_some c).After-hear-shares in
    outcome_is h false (last_is _ _ _ false (shares_is h) c.if-is_some.ensures)
