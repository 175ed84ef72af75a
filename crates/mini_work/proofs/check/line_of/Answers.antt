use Rattle.mini_work.proofs.check.line_of.Goals as goal

pub returns : goal.returns
returns c = c.format.ensures.ok
