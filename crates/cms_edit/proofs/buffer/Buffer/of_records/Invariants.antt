use Rattle.std.proofs.Common.{◌≡◌, reverse, take}
use Rattle.cms_edit.proofs.buffer.Buffer.of_records.Given as goal

abbrev pub invariant-loop-nth : goal.invariant-loop-nth
invariant-loop-nth l = l.below.items ≡ take l.nth (reverse l.records)
