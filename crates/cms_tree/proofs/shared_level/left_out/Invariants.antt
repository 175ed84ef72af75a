use Rattle.std.proofs.Common.{◌≡◌, ◌+◌, ◌-◌, ◌^◌, ◌≤◌, ◌++◌, ℕ, List, drop, length, vec_len, vec_capacity}
use Rattle.cms_model.specs.SharedTimes.{gone}
use Rattle.cms_tree.specs.Paths.{levels_of, tree_levels}
use Rattle.cms_tree.proofs.Paths.{left_count}
use Rattle.cms_tree.proofs.shared_level.left_out.Given as goal

abbrev pub invariant-loop-height : goal.invariant-loop-height
invariant-loop-height l = record {
  power : l.size ≡ l.fan ^ l.height;
  items : (tiers : List (List ℕ)) → length tiers ≡ l.new_levels → l.into.items ++ gone l.fan l.size l.old_leaves l.new_leaves l.written
      (levels_of l.fan l.size l.old_leaves (l.old_levels - l.height) l.olds) (drop l.height tiers)
      ≡ l.fn.into.items ++ gone l.fan 1 l.old_leaves l.new_leaves l.written (tree_levels l.fan l.old_leaves l.old_pointers) tiers;
  olds : left_count l.fan l.size l.old_leaves (l.old_levels - l.height) ≤ length l.olds;
  room : vec_len l.into + left_count l.fan l.size l.old_leaves (l.old_levels - l.height) ≤ vec_capacity l.into;
  capacity : vec_capacity l.fn.into ≤ vec_capacity l.into;
}
