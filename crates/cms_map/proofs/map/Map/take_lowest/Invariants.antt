use Rattle.std.proofs.Common.{◌≡◌, ◌+◌, ◌≤◌, vec_len, vec_capacity}
use Rattle.cms_map.specs.Bits.{NoneIsFree}
use Rattle.cms_map.proofs.Free.{Marking}
use Rattle.cms_map.proofs.map.Map.take_lowest.Given as goal

abbrev pub invariant-loop-taken : goal.invariant-loop-taken
invariant-loop-taken l = record {
  marking : Marking l.fn.self l.fn.into.items l.self l.into.items l.block l._taken;
  raised : NoneIsFree l.block l.self;
  len : vec_len l.into ≡ vec_len l.fn.into + l._taken;
  capacity : vec_capacity l.fn.into ≤ vec_capacity l.into;
}
