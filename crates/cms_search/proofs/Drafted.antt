-- A draft that was planned for the disk of a letter.
use Rattle.std.proofs.Common.{◌≡◌, ◌≤◌, true, Result, Ok, Err}
use Rattle.std.specs.Prelude.{IfOk, OnOk}
use Rattle.cms_edf.specs.FileDrafts.{Draft, IsSomeDraft}
use Rattle.cms_disk.specs.Disks.{Accessed}
use Rattle.cms_disk.specs.declared.fault.DiskFault.{DiskFault}
use Rattle.cms_search.specs.Drafts.{IsPlannedOn}

pub planned_on : (d e : Accessed) (r : Result Draft DiskFault) → IfOk r (IsSomeDraft d.volume) → OnOk r (d.writable ≡ true) → OnOk r (1 ≤ e.spare) → IfOk r (IsPlannedOn d e)
planned_on d e (Ok draft) some writable room = record { some = some; writable = writable; room = room }
planned_on d e (Err why) some writable room = tt
