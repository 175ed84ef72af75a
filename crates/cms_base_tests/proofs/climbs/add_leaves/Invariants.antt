use Rattle.std.proofs.Common.{◌≡◌}
use Rattle.cms_base_tests.proofs.climbs.add_leaves.Given as goal

abbrev pub invariant-loop-place : goal.invariant-loop-place
invariant-loop-place l = record {
  count : l.climb.count ≡ l.leaves;
  added : l.climb.added ≡ l.place;
  bsize : l.climb.bsize ≡ 512;
  psize : l.climb.psize ≡ l.fn.climb.psize;
}
