use Rattle.std.proofs.Common.{take, Ok}
use Rattle.cms_world.specs.Seen.{seen}
use Rattle.cms_held.specs.Systems.{nodes_at}
use Rattle.cms_edf.specs.BlockWrites.{Writes}
use Rattle.cms_edf.proofs.block_writes.write_new_nodes.Given as goal

abbrev pub invariant-loop-nth : goal.invariant-loop-nth
invariant-loop-nth g l = record {
  writes : Writes (seen g.W.World l.fn.world) (seen g.W.World l.world) l.target (take l.nth (nodes_at l.target.bsize l.directory.tree l.directory.part.nodes)) (Ok tt);
}
