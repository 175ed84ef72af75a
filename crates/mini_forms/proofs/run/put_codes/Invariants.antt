use Rattle.std.proofs.Common.{◌≡◌, ◌+◌, ◌-◌, ◌≤◌, ◌++◌, length, map, take, vec_len, vec_capacity}
use Rattle.mini_forms.specs.Page.{code_of}
use Rattle.mini_forms.proofs.run.put_codes.Given as goal

abbrev pub invariant-loop-byte : goal.invariant-loop-byte
invariant-loop-byte l = record {
  codes : l.into.items ≡ l.initial.into.items ++ map code_of (take l.byte-index l.bytes);
  room : vec_len l.into + (length l.bytes - l.byte-index) ≤ vec_capacity l.into;
  capacity : vec_capacity l.initial.into ≤ vec_capacity l.into;
}
