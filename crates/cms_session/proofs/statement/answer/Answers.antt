use Rattle.cms_session.proofs.statement.answer.Goals as goal

pub returns-in-Begun-clause-acts : goal.returns-in-Begun-clause-acts
returns-in-Begun-clause-acts g c = let is = c.in-Begun.is in rw is c.go_on.ensures.acts
