use Rattle.vectors.proofs.Jobs.{begun_ready, begun_same, begun_parties}
use Rattle.vectors.proofs.job.begun.Goals as goal

pub returns-clause-ready : goal.returns-clause-ready
returns-clause-ready c =
    begun_ready c.args.job c.args.side c.args.list _ _ _ c.begin.result c.begin.new.state _ _ c.list_words.ensures c.begin.ensures c.in_ok-ok.ensures.variant

pub returns-clause-same : goal.returns-clause-same
returns-clause-same c =
    begun_same c.args.job c.args.side c.args.list _ _ _ c.begin.result c.begin.new.state _ _ c.list_words.ensures c.begin.ensures c.in_ok-ok.ensures.variant

pub returns-clause-parties : goal.returns-clause-parties
returns-clause-parties c =
    begun_parties c.args.job c.args.side c.args.list _ _ _ c.begin.result c.begin.new.state _ _ c.list_words.ensures c.begin.ensures c.in_ok-ok.ensures.variant
