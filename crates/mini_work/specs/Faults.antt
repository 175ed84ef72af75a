-- Why commands end.
use Rattle.cms_disk.specs.declared.fault.DiskFault.{DiskFault}
use Rattle.cms_disk.specs.declared.fault.DiskFault.TheVariants as disk
use Rattle.mini_work.specs.declared.fault.Fault.{Fault}
use Rattle.mini_work.specs.declared.fault.Fault.TheVariants as fault

-- why a call on a minidisk that isn't refused ends a command
abbrev pub fault_of : DiskFault → Fault
fault_of disk.Memory = fault.Memory
fault_of _ = fault.Image
