use Rattle.std.proofs.Common.{take}
use Rattle.std.specs.Prelude.{map}
use Rattle.cms_map.specs.Touched.{data_block, IsLowest}
use Rattle.cms_map.proofs.map.next_touched.Given as goal

abbrev pub invariant-loop-block : goal.invariant-loop-block
invariant-loop-block l = IsLowest l.from (map (data_block l.bsize) (take l.block-index l.blocks)) l.lowest
