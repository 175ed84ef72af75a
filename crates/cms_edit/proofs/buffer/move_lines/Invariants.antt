use Rattle.std.proofs.Common.{◌≡◌, ◌+◌, ◌-◌, ◌≤◌, ◌++◌, length, reverse, vec_len}
use Rattle.std.specs.Vec.{vec_capacity}
use Rattle.cms_edit.proofs.buffer.move_lines.Given as goal

abbrev pub invariant-loop : goal.invariant-loop
invariant-loop l = record {
  lines : l.to.items ++ reverse l.from.items ≡ l.initial.to.items ++ reverse l.initial.from.items;
  moved : length l.to.items ≡ length l.initial.to.items + l.counter;
  room : vec_len l.to + (l.count - l.counter) ≤ vec_capacity l.to;
  left : l.count ≤ vec_len l.from + l.counter;
}
