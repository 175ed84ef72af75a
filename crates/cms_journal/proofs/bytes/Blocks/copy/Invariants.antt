use Rattle.std.proofs.Common.{◌≡◌, take}
use Rattle.cms_journal.proofs.bytes.Blocks.copy.Given as goal

abbrev pub invariant-loop-block : goal.invariant-loop-block
invariant-loop-block l = l.blocks ≡ take l.block-index l.block-items
