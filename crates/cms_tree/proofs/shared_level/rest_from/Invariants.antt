use Rattle.std.proofs.Common.{◌≡◌, ℕ, ◌≤◌, drop}
use Rattle.cms_model.specs.SharedTrees.{any_within}
use Rattle.cms_tree.proofs.shared_level.rest_from.Given as goal

abbrev pub invariant-loop-at : goal.invariant-loop-at
invariant-loop-at l = (from to : ℕ) → l.low ≤ from → any_within from to l.numbers ≡ any_within from to (drop l.at l.numbers)
