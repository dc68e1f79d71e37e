-- `walk::joined_turns::heard_past` meets its contract: it tells of the words past those that two jobs use.
use Rattle.walk.specs.Walk.{roomy_hear}
use Rattle.walk.proofs.Fillers.{rest}
use Rattle.walk.proofs.joined_turns.heard_past.Goals as goal

pub returns-clause-kept : goal.returns-clause-kept
returns-clause-kept c =
    let left = rw c.own.ensures.1 at c.hear-tried.ensures.left in
    rest 200 100 c.hear-tried.new.work (roomy_hear c.args.state).buffer c.hear-tried.auto.work left c.untouched.ensures
