use Rattle.std.proofs.Common.{◌≡◌, replicate}
use Rattle.cms_journal.proofs.bytes.Blocks.zeros.Given as goal

abbrev pub invariant-loop : goal.invariant-loop
invariant-loop l = l.blocks ≡ replicate l.counter (replicate l.size 0)
