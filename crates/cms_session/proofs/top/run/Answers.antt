use Rattle.cms_session.proofs.top.run.Goals as goal

pub returns-clause-headline : goal.returns-clause-headline
returns-clause-headline g c = let none = c.new.ensures in rw none at c.run_with.ensures.headline
