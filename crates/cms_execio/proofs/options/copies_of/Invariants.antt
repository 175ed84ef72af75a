use Rattle.std.proofs.Common.{◌≡◌, take}
use Rattle.cms_execio.proofs.options.copies_of.Given as goal

abbrev pub invariant-loop-word : goal.invariant-loop-word
invariant-loop-word l = l.tokens ≡ take l.word-index l.words
