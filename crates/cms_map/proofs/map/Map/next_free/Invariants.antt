use Rattle.std.proofs.Common.{◌≡◌, ◌+◌, ◌-◌, ◌^◌, ◌<◌, drop}
use Rattle.cms_map.specs.Bits.{free_from}
use Rattle.cms_map.proofs.map.Map.next_free.Given as goal

abbrev pub invariant-loop-next : goal.invariant-loop-next
invariant-loop-next l = record {
  later : l.block < l.next;
  same : free_from (l.block + 1) (drop l.block l.self) ≡ free_from l.next (drop (l.next - 1) l.self);
}

abbrev pub decreases-loop-next : goal.decreases-loop-next
decreases-loop-next l = 2 ^ 32 - l.next
