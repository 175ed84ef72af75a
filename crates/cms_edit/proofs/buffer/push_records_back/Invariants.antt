use Rattle.std.proofs.Common.{◌≡◌, ◌++◌, reverse, take}
use Rattle.cms_edit.proofs.buffer.push_records_back.Given as goal

abbrev pub invariant-loop-nth : goal.invariant-loop-nth
invariant-loop-nth l = l.records ≡ l.initial.records ++ take l.nth (reverse l.from)
