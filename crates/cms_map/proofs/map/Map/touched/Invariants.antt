use Rattle.std.proofs.Common.{◌+◌, ◌-◌, ◌^◌, ◌≤◌, vec_len, vec_capacity}
use Rattle.cms_map.proofs.TouchedBlocks.{Touching}
use Rattle.cms_map.proofs.map.Map.touched.Given as goal

abbrev pub invariant-loop-place : goal.invariant-loop-place
invariant-loop-place l = record {
  touching : Touching l.bsize l.blocks l.fn.into.items l.into.items l.from;
  len : vec_len l.into ≤ vec_len l.fn.into + l.from;
  capacity : vec_capacity l.fn.into ≤ vec_capacity l.into;
}

abbrev pub decreases-loop-place : goal.decreases-loop-place
decreases-loop-place l = 2 ^ 32 - l.from
