use Rattle.std.proofs.Common.{◌≡◌, length, take}
use Rattle.cms_held.specs.Renewals.{with_freed}
use Rattle.cms_edf.proofs.allotment.release_all.Given as goal

abbrev pub invariant-loop-block : goal.invariant-loop-block
invariant-loop-block l = record {
  freed : l.map ≡ with_freed (take l.block-index l.blocks) l.initial.map;
  count : length l.map ≡ l.total;
}
