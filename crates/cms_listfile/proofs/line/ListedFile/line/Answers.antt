use Rattle.std.proofs.Common.{arith, rules}
use Rattle.cms_text.specs.Limits.{longest_text}
use Rattle.cms_listfile.proofs.ShortLines.{trailing_short}
use Rattle.cms_listfile.proofs.line.ListedFile.line.Goals as goal

pub returns-clause-short : goal.returns-clause-short
returns-clause-short c =
    let few = c.in_ok-columns.ensures.short in
    trailing_short c.in_ok-line.line.items c.in_ok-columns.columns.items longest_text (search rules) (omega (arith, few))
