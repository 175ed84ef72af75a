use Rattle.std.proofs.Common.{◌≡◌, take}
use Rattle.std.specs.List.{concat}
use Rattle.cms_tree.specs.Parts.{blocks_in}
use Rattle.cms_tree.proofs.read.joined.Given as goal

abbrev pub invariant-loop-tier : goal.invariant-loop-tier
invariant-loop-tier l = l.pointers.items ≡ concat (blocks_in (take l.tier-index l.tiers))
