use Rattle.std.proofs.Common.{◌≡◌, length, All}
use Rattle.cms_tree.specs.Resumes.{IsClear}
use Rattle.cms_tree.proofs.climb.clear_levels.Given as goal

abbrev pub invariant-loop : goal.invariant-loop
invariant-loop l = record {
  count : length l.levels.items ≡ l.counter;
  clear : All (IsClear l.bsize) l.levels.items;
}
