use Rattle.std.proofs.Common.{◌++◌}
use Rattle.cms_edf.proofs.FileTrees.{BlocksTo}
use Rattle.cms_edf.proofs.files.all_blocks.Given as goal

abbrev pub invariant-loop-nth : goal.invariant-loop-nth
invariant-loop-nth l = record { blocks : BlocksTo (l.directory.blocks.items ++ l.map_tree.blocks.items) l.files l.nth l.blocks.items }
