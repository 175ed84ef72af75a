use Rattle.std.proofs.Common.{◌≡◌, [], take}
use Rattle.mini_work.specs.ChosenFiles.{chosen}
use Rattle.mini_work.proofs.chosen_files.choose.Given as goal

abbrev pub invariant-loop-place : goal.invariant-loop-place
invariant-loop-place l = l.chosen.items ≡ chosen [] (take l.place l.patterns) l.names
