use Rattle.std.proofs.Common.{length, take, Ok}
use Rattle.cms_world.specs.Seen.{seen}
use Rattle.cms_model.specs.Lists.{cut}
use Rattle.cms_held.specs.Systems.{block_writes}
use Rattle.cms_edf.specs.BlockWrites.{Writes}
use Rattle.cms_edf.proofs.block_writes.write_data.Given as goal

abbrev pub invariant-loop-nth : goal.invariant-loop-nth
invariant-loop-nth g l = record {
  writes : Writes (seen g.W.World l.fn.world) (seen g.W.World l.world) l.target (take l.nth (block_writes l.blocks (cut (length l.blocks) l.target.bsize l.bytes))) (Ok tt);
}
