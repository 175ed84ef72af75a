use Rattle.std.proofs.Common.{◌≡◌, take}
use Rattle.exec2_parse.proofs.words.copied.Given as goal

abbrev pub invariant-loop-word : goal.invariant-loop-word
invariant-loop-word l = l.copy ≡ take l.word-index l.words
