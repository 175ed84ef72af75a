use Rattle.cms_tree.proofs.LevelsBuilt.{Rises}
use Rattle.cms_tree.proofs.node.group_of.Given as goal

abbrev pub invariant-loop-place : goal.invariant-loop-place
invariant-loop-place l = Rises l.fan l.fn.leaves l.fn.fresh l.nth l.below l.numbers l.size l.place

abbrev pub decreases-loop-place : goal.decreases-loop-place
decreases-loop-place l = l.place
