use Rattle.std.proofs.Common.{rules}
use Rattle.cms_listfile.proofs.Lines.{header_is}
use Rattle.cms_listfile.proofs.ShortLines.{header_short}
use Rattle.cms_listfile.proofs.line.header.Goals as goal

pub returns-clause-text : goal.returns-clause-text
returns-clause-text c = header_is c.args.last c.in_ok-line.line.items (search rules)

pub returns-clause-short : goal.returns-clause-short
returns-clause-short c = header_short c.args.last c.in_ok-line.line.items (search rules)
