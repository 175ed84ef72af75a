use Rattle.std.proofs.Common.{◌≡◌, ◌+◌, ◌-◌, ◌≤◌, ◌++◌, length, take, vec_len, vec_capacity}
use Rattle.mini_forms.specs.Lines.{text_of}
use Rattle.mini_forms.proofs.output.put_text.Given as goal

abbrev pub invariant-loop-code : goal.invariant-loop-code
invariant-loop-code l = record {
  text : l.into.items ≡ l.initial.into.items ++ text_of (take l.code-index l.codes);
  room : vec_len l.into + ((length l.codes - l.code-index) + (length l.codes - l.code-index)) + 1 ≤ vec_capacity l.into;
}
