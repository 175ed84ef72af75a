use Rattle.std.proofs.Common.{◌≡◌, length}
use Rattle.cms_edf.proofs.EntriesRead.{Comes}
use Rattle.cms_edf.proofs.entries.entries_of.Given as goal

abbrev pub invariant-loop-place : goal.invariant-loop-place
invariant-loop-place l = record { comes : Comes l.bsize l.count l.bytes l.place l.entries.items; many : length l.entries.items ≡ l.place }
