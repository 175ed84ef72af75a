use Rattle.std.proofs.Common.{◌*◌, [], length, take, drop}
use Rattle.cms_tree.proofs.FilledBlocks.{Filled}
use Rattle.cms_edf.proofs.new_directory.NewDirectory.fill_bottom.Given as goal

abbrev pub invariant-loop-at : goal.invariant-loop-at
invariant-loop-at l =
    Filled (length l.fn.block) 4 [] (length l.self.tree.leaves) 1 (l.place * l.fan) (take l.fan (drop (l.place * l.fan) l.self.tree.leaves)) l.at l.block
