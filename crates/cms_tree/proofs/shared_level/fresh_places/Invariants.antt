use Rattle.std.proofs.Common.{◌≡◌, ◌+◌, ◌^◌, ◌≤◌, ◌++◌, vec_len, vec_capacity}
use Rattle.cms_model.specs.Sizes.{pointers_to}
use Rattle.cms_tree.specs.Paths.{places_to}
use Rattle.cms_tree.proofs.shared_level.fresh_places.Given as goal

abbrev pub invariant-loop-height : goal.invariant-loop-height
invariant-loop-height l = record {
  power : l.size ≡ l.fan ^ l.height;
  first : l.first ≡ pointers_to l.fan l.new_leaves l.height;
  items : l.into.items ≡ l.fn.into.items ++ places_to l.fan l.old_leaves l.new_leaves l.written l.height;
  len : vec_len l.into ≤ vec_len l.fn.into + l.first;
  capacity : vec_capacity l.fn.into ≤ vec_capacity l.into;
}
