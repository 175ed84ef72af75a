-- The counts of failed calls, by which a failure is told from a refusal.
use Rattle.std.specs.Prelude.{◌≡◌, ◌⊎◌, ◌≤◌, ℕ, Bool, true, false, Result, Ok, Err, IfErr}
use Rattle.cms_journal.specs.Causes.{Rose}
use Rattle.cms_world.specs.Seen.{Seen}
use Rattle.cms_world.specs.declared.world.World.{Ghosts as WorldGhosts}
use Rattle.cms_disk.specs.declared.fault.DiskFault.{DiskFault}
use Rattle.cms_disk.specs.declared.fault.DiskFault.TheVariants as disk
use Rattle.mini_host.specs.declared.host.Host.{Ghosts as HostGhosts}
use Rattle.mini_work.specs.declared.fault.Fault.{Fault}
use Rattle.mini_work.specs.declared.fault.Fault.TheVariants as fault
use Rattle.mini_work.specs.declared.host_records.FileFault.{FileFault}
use Rattle.mini_work.specs.declared.host_records.FileFault.TheVariants as file
use Rattle.mini_work.specs.declared.status.Status.{Status}
use Rattle.mini_work.specs.declared.status.Status.TheVariants as status

-- how often calls on units failed, other calls of the world, and calls of the host
pub record Counts : Type 0 where
  pub faults : ℕ
  pub edges : ℕ
  pub host : ℕ

-- those of this world and of this host
abbrev pub counts : {W H : Type 0} → WorldGhosts W → HostGhosts H → W → H → Counts
counts world host w h = record { faults = world.faults w; edges = world.edges w; host = host.faults h }

-- a call of the host alone, and calls of the world alone, with any counts of the other
abbrev pub on_host : Counts → ℕ → Counts
on_host c n = record { faults = c.faults; edges = c.edges; host = n }

-- those of this world, with any count of the host
abbrev pub on_world : {W : Type 0} → WorldGhosts W → W → ℕ → Counts
on_world world w n = record { faults = world.faults w; edges = world.edges w; host = n }

-- what a world shows, with any count of the host
abbrev pub on_seen : Seen → ℕ → Counts
on_seen s n = record { faults = s.faults; edges = s.edges; host = n }

-- none of them fell
pub record AreLater (before now : Counts) : Type 0 where
  pub faults : before.faults ≤ now.faults
  pub edges : before.edges ≤ now.edges
  pub host : before.host ≤ now.host

-- one of them rose
abbrev pub OneRose : Counts → Counts → Type 0
OneRose before now = Rose before.faults now.faults ⊎ Rose before.edges now.edges ⊎ Rose before.host now.host

-- a command ended by a failure, and not for want of memory
abbrev pub is_failure : Fault → Bool
is_failure fault.Memory = false
is_failure fault.Image = true
is_failure fault.Host = true
is_failure fault.Output = true
is_failure fault.Clock = true
is_failure fault.Said = true

-- none of them fell, and where it ended by a failure one rose
pub record HasCause {A : Type 0} (before now : Counts) (r : Result A Fault) : Type 0 where
  pub later : AreLater before now
  pub failed : IfErr r (λ why. is_failure why ≡ true → OneRose before now)

-- a command or a part of it ended by a failure, or with the status of one
abbrev pub is_failed : Result Status Fault → Bool
is_failed (Ok status.Done) = false
is_failed (Ok status.Refused) = false
is_failed (Ok status.Failed) = true
is_failed (Err why) = is_failure why

-- none of them fell, and where it ended so one rose
pub record HasEnd (before now : Counts) (r : Result Status Fault) : Type 0 where
  pub later : AreLater before now
  pub failed : is_failed r ≡ true → OneRose before now

-- records of a host file weren't taken since something failed
abbrev pub is_file_failure : FileFault → Bool
is_file_failure (file.Form why) = false
is_file_failure file.Changed = false
is_file_failure (file.Fault why) = is_failure why

-- none of them fell, and where records weren't taken since something failed one rose
pub record HasFileCause {A : Type 0} (before now : Counts) (r : Result A FileFault) : Type 0 where
  pub later : AreLater before now
  pub failed : IfErr r (λ why. is_file_failure why ≡ true → OneRose before now)

-- a call on a minidisk ended by a failure, and not for want of memory
abbrev pub is_broken : DiskFault → Bool
is_broken disk.ReadOnly = true
is_broken disk.Device = true
is_broken disk.InDoubt = true
is_broken disk.Altered = true
is_broken disk.NotFound = false
is_broken disk.Exists = false
is_broken (disk.Limit k) = false
is_broken (disk.Full need free) = false
is_broken disk.Memory = false
