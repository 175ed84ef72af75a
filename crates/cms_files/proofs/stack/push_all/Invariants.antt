use Rattle.std.proofs.Common.{◌≡◌, take}
use Rattle.cms_files.specs.StackedLines.{stacked}
use Rattle.cms_files.proofs.stack.push_all.Given as goal

abbrev pub invariant-loop-line : goal.invariant-loop-line
invariant-loop-line l = l.stack ≡ stacked l.end (take l.line-index l.lines) l.fn.stack
