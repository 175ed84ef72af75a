use Rattle.std.proofs.Common.{◌≡◌, ◌++◌, take}
use Rattle.cms_edit.proofs.buffer.push_records.Given as goal

abbrev pub invariant-loop-line : goal.invariant-loop-line
invariant-loop-line l = l.records ≡ l.initial.records ++ take l.line-index l.from
