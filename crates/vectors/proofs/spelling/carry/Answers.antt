use Rattle.vectors.proofs.Carried.{carried_as_is}
use Rattle.vectors.proofs.spelling.carry.Goals as goal

pub returns-in-AsSent-clause-carried : goal.returns-in-AsSent-clause-carried
returns-in-AsSent-clause-carried c = carried_as_is _ _ _ c.in-AsSent.is
