use Rattle.std.proofs.Common.{◌≡◌, drop, length}
use Rattle.cms_edf.proofs.MetBlocks.{Meets}
use Rattle.cms_edf.proofs.met.met_twice.Given as goal

abbrev pub invariant-loop-place : goal.invariant-loop-place
invariant-loop-place l = record { meets : Meets l.seen (drop l.place l.blocks) l.blocks; size : length l.seen ≡ length l.fn.seen }
