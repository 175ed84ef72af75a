use Rattle.std.proofs.Common.{◌≡◌, ◌++◌, take}
use Rattle.cms_held.specs.Allotments.{on_map}
use Rattle.cms_edf.proofs.allotment.append_on_map.Given as goal

abbrev pub invariant-loop-block : goal.invariant-loop-block
invariant-loop-block l = l.into.items ≡ l.initial.into.items ++ on_map l.total (take l.block-index l.blocks)
