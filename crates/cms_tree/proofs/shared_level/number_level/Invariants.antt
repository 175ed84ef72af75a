use Rattle.std.proofs.Common.{◌≡◌, ℕ, ◌+◌, ◌*◌, ◌≤◌, ◌++◌, vec_len, vec_capacity}
use Rattle.std.specs.List.Sorted.{IsStrictlyIncreasing}
use Rattle.cms_model.specs.SharedTrees.{any_within, fresh_on}
use Rattle.cms_tree.specs.Paths.{numbered}
use Rattle.cms_tree.proofs.shared_level.number_level.Given as goal

abbrev pub invariant-loop-nth : goal.invariant-loop-nth
invariant-loop-nth l = record {
  items : l.into.items ≡ l.fn.into.items ++ numbered l.level.both l.level.size l.level.before l.level.count l.written l.olds l.fresh l.nth;
  taken : l.taken ≡ fresh_on l.level.both l.level.size l.level.before l.level.count l.written l.nth;
  same : (from to : ℕ) → l.nth * l.level.size ≤ from → any_within from to l.written ≡ any_within from to l.rest;
  ascends : IsStrictlyIncreasing l.rest;
  len : vec_len l.into ≡ vec_len l.fn.into + l.nth;
  capacity : vec_capacity l.fn.into ≤ vec_capacity l.into;
}
