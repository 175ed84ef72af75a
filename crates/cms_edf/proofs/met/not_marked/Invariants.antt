use Rattle.std.proofs.Common.{◌≤◌}
use Rattle.cms_edf.proofs.Marked.{Looks}
use Rattle.cms_edf.proofs.met.not_marked.Given as goal

abbrev pub invariant-loop-block : goal.invariant-loop-block
invariant-loop-block l = record { looks : Looks l.map l.seen l.block; low : 6 ≤ l.block }
