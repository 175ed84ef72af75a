use Rattle.std.proofs.Common.{take, Ok}
use Rattle.cms_world.specs.Seen.{seen}
use Rattle.cms_held.specs.Systems.{leaf_writes, map_piece}
use Rattle.cms_edf.specs.BlockWrites.{Writes}
use Rattle.cms_edf.proofs.block_writes.write_map.Given as goal

abbrev pub invariant-loop-nth : goal.invariant-loop-nth
invariant-loop-nth g l = record {
  writes : Writes (seen g.W.World l.fn.world) (seen g.W.World l.world) l.target (take l.nth (leaf_writes l.blocks (map_piece l.target.bsize l.map) l.places)) (Ok tt);
}
