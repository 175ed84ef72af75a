use Rattle.std.proofs.Common.{◌≡◌, ◌+◌, map, drop}
use Rattle.mini_words.specs.Names.{name_pattern_of}
use Rattle.mini_words.specs.Requests.{each_of}
use Rattle.mini_words.specs.declared.fault.WordFault.TheVariants.{Name}
use Rattle.mini_words.proofs.Each.{before_said}
use Rattle.mini_words.proofs.lists.name_patterns.Given as goal

abbrev pub invariant-loop-place : goal.invariant-loop-place
invariant-loop-place l = each_of name_pattern_of Name 1 (map (λ s. s.now) l.words) ≡ before_said l.names (each_of name_pattern_of Name (l.place + 1) (drop l.place (map (λ s. s.now) l.words)))
