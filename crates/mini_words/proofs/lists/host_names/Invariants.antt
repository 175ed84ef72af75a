use Rattle.std.proofs.Common.{◌≡◌, map, take}
use Rattle.mini_words.proofs.lists.host_names.Given as goal

abbrev pub invariant-loop-word : goal.invariant-loop-word
invariant-loop-word l = l.names ≡ map (λ s. s.now) (take l.word-index l.words)
