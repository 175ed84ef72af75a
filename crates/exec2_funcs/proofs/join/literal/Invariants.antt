use Rattle.std.proofs.Common.{◌≡◌, ◌≤◌, ◌++◌, drop, length}
use Rattle.exec2_funcs.specs.Values.{joined}
use Rattle.exec2_funcs.proofs.Joins.{tail_of}
use Rattle.exec2_funcs.proofs.join.literal.Given as goal

abbrev pub invariant-loop-word : goal.invariant-loop-word
invariant-loop-word l = record {
  short : length l.text.items ≤ 255;
  same : l.text.items ++ tail_of (drop l.word-index l.others) ≡ joined l.words;
}
