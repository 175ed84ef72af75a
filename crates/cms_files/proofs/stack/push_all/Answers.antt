use Rattle.std.proofs.Common.{◌∙◌}
use Rattle.cms_files.proofs.stack.push_all.Goals as goal

-- without memory for a line those before it stand there
pub returns-in_err-of-clause-first : goal.returns-in_err-of-clause-first
returns-in_err-of-clause-first c = (c.loop-line.line-index, c.loop-line.invariant)

pub returns-in-Err-clause-first : goal.returns-in-Err-clause-first
returns-in-Err-clause-first c = (c.loop-line.line-index, c.in-Err.ensures.err ∙ c.loop-line.invariant)

pub returns-clause-first : goal.returns-clause-first
returns-clause-first c = (c.loop-line.line-index, c.loop-line.invariant)
