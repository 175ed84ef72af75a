use Rattle.cms_line.proofs.CodedLines.{return_at, other_at}
use Rattle.cms_line.proofs.console.without_return.Goals as goal

pub returns-then-last-eq13 : goal.returns-then-last-eq13
returns-then-last-eq13 c = return_at c.args.line.now c.in-Some.last.now c.in-Some.ensures.value c.if-last-eq13.true

pub returns-else-last-eq13 : goal.returns-else-last-eq13
returns-else-last-eq13 c = other_at c.args.line.now c.in-Some.last.now c.in-Some.ensures.value c.if-last-eq13.false
