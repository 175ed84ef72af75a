use Rattle.std.proofs.Common.{◌≡◌, ◌≤◌, drop, length}
use Rattle.exec2_funcs.specs.Values.{text_of}
use Rattle.exec2_funcs.proofs.Joins.{continued}
use Rattle.exec2_funcs.proofs.join.string.Given as goal

abbrev pub invariant-loop-word : goal.invariant-loop-word
invariant-loop-word l = record {
  short : length l.text.items ≤ 255;
  same : continued l.text.items (drop l.word-index l.words) ≡ text_of l.words;
}
