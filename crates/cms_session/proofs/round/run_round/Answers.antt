use Rattle.cms_session.proofs.Rounds.{round_none, round_some}
use Rattle.cms_session.proofs.round.run_round.Goals as goal

pub returns-in-Some-clause-acts : goal.returns-in-Some-clause-acts
returns-in-Some-clause-acts g c =
    round_some _ _ c.args.session.now.reader _ _ _ c.args.session.now.procedures c.pop.new.self c.statement.new.session.procedures c.in-Some.newest
    _ c.in-Some.ensures c.statement.ensures.acts

pub returns-in-None-clause-acts : goal.returns-in-None-clause-acts
returns-in-None-clause-acts g c =
    round_none _ _ c.args.session.now.reader _ _ _ c.args.session.now.procedures c.pop.new.self c.line_round.new.session.procedures
    _ c.in-None.ensures.0 c.in-None.ensures.1 c.line_round.ensures.acts
