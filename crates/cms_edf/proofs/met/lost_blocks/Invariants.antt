use Rattle.std.proofs.Common.{◌≤◌, ◌+◌}
use Rattle.cms_edf.proofs.Marked.{Counts}
use Rattle.cms_edf.proofs.met.lost_blocks.Given as goal

abbrev pub invariant-loop-block : goal.invariant-loop-block
invariant-loop-block l = record { counts : Counts l.map l.seen l.block l.lost; few : l.lost + 6 ≤ l.block; low : 6 ≤ l.block }
