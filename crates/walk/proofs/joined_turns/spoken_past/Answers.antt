-- `walk::joined_turns::spoken_past` meets its contract: it tells of the words past those that two jobs use.
use Rattle.walk.specs.Walk.{roomy_speak}
use Rattle.walk.proofs.Fillers.{rest}
use Rattle.walk.proofs.joined_turns.spoken_past.Goals as goal

pub returns-clause-kept : goal.returns-clause-kept
returns-clause-kept c =
    let left = rw c.own.ensures.1 at c.speak-tried.ensures.left in
    rest 66 33 c.speak-tried.new.out (roomy_speak c.args.state).buffer c.speak-tried.auto.out left c.untouched.ensures
