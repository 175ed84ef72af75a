use Rattle.std.proofs.Common.{◌≡◌, []}
use Rattle.std.specs.Prelude.{replicate}
use Rattle.cms_tree.specs.Parts.{blocks_in}
use Rattle.cms_tree.proofs.read.empty_tiers.Given as goal

abbrev pub invariant-loop : goal.invariant-loop
invariant-loop l = blocks_in l.tiers.items ≡ replicate l.counter []
