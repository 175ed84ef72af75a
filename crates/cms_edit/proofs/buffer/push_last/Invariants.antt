use Rattle.std.proofs.Common.{◌≡◌, ◌++◌, reverse, take}
use Rattle.cms_edit.proofs.buffer.push_last.Given as goal

abbrev pub invariant-loop-nth : goal.invariant-loop-nth
invariant-loop-nth l = l.lines ≡ l.initial.lines ++ take l.nth (reverse l.from)
