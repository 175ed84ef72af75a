use Rattle.std.proofs.Common.{◌≡◌, ◌+◌, ◌-◌, ◌^◌, ◌≤◌, ◌++◌, length, vec_len, vec_capacity}
use Rattle.std.specs.List.{concat}
use Rattle.cms_model.specs.Sizes.{pointer_count}
use Rattle.cms_tree.specs.Paths.{levels_of, path_levels, paths}
use Rattle.cms_tree.proofs.Paths.{left_count, left_fresh}
use Rattle.cms_tree.proofs.shared_level.path.Given as goal

abbrev pub invariant-loop-height : goal.invariant-loop-height
invariant-loop-height l = record {
  power : l.size ≡ l.fan ^ l.height;
  items : l.into.items ++ concat (paths l.fan l.size l.old_leaves l.new_leaves l.written
      (levels_of l.fan l.size l.old_leaves (l.old_levels - l.height) l.olds) (l.new_levels - l.height) l.numbers)
      ≡ l.fn.into.items ++ concat (path_levels l.fan l.old_leaves l.old_pointers l.new_leaves l.written l.fresh);
  olds : left_count l.fan l.size l.old_leaves (l.old_levels - l.height) ≤ length l.olds;
  fresh : left_fresh l.fan l.size l.old_leaves l.new_leaves l.written (l.old_levels - l.height) (l.new_levels - l.height) ≤ length l.numbers;
  len : vec_len l.into + left_count l.fan l.size l.new_leaves (l.new_levels - l.height) ≡ vec_len l.fn.into + pointer_count l.fan l.new_leaves;
  capacity : vec_capacity l.fn.into ≤ vec_capacity l.into;
}
