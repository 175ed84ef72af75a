use Rattle.std.proofs.Common.{◌≡◌, ◌≤◌, ◌+◌, ◌++◌, reverse, drop}
use Rattle.std.specs.List.{concat}
use Rattle.cms_world.specs.Crash.{chosen}
use Rattle.cms_world.proofs.crash.image_of.Given as goal

abbrev pub invariant-loop-place : goal.invariant-loop-place
invariant-loop-place l = record {
  image : l.image.items ++ concat (chosen (reverse l.events) l.unit l.choice (l.place + 1) l.count (drop l.place l.start)) ≡ concat (chosen (reverse l.events) l.unit l.choice 1 0 l.start);
  count : l.count ≤ l.place;
}
