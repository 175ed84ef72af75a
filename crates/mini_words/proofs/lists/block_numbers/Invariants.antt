use Rattle.std.proofs.Common.{◌≡◌, ◌+◌, map, drop}
use Rattle.mini_words.specs.Requests.{each_of}
use Rattle.mini_words.specs.Words.{number_of}
use Rattle.mini_words.specs.declared.fault.WordFault.TheVariants.{Block}
use Rattle.mini_words.proofs.Each.{before_said}
use Rattle.mini_words.proofs.lists.block_numbers.Given as goal

abbrev pub invariant-loop-place : goal.invariant-loop-place
invariant-loop-place l = each_of (number_of 1 1048576) Block 1 (map (λ s. s.now) l.words) ≡ before_said l.blocks (each_of (number_of 1 1048576) Block (l.place + 1) (drop l.place (map (λ s. s.now) l.words)))
