use Rattle.std.proofs.Common.{◌≡◌, ◌≤◌, ◌++◌, drop, length}
use Rattle.std.specs.List.{concat}
use Rattle.exec2_funcs.proofs.join.concat.Given as goal

abbrev pub invariant-loop-word : goal.invariant-loop-word
invariant-loop-word l = record {
  short : length l.text.items ≤ 255;
  same : l.text.items ++ concat (drop l.word-index l.words) ≡ concat l.words;
}
