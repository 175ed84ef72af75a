use Rattle.std.proofs.Common.{length}
use Rattle.cms_tree.proofs.FilledBlocks.{Filled}
use Rattle.cms_tree.proofs.node.fill_node.Given as goal

abbrev pub invariant-loop-place : goal.invariant-loop-place
invariant-loop-place l = Filled (length l.fn.into) l.psize l.marks l.count l.group.size l.group.first l.group.blocks.now l.place l.into
